-- Small words for contracts; the call itself is `batch_call` (batch_update/specs). Nobody has to believe this file.
pub mod Steps
