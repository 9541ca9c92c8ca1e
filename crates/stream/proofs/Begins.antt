-- THE BEGIN: emptying tables that are long enough. Assumes nothing.
use mathlib.Core.Path.{◌≡◌}
use mathlib.Core.List.{List}
use Prim.Native.Nat.{◌≤◌, ℕ}
use lib.ListN.{length}
use borrow.Author.Tests.{le-leb}
use Rattle.lists.specs.Lists.{first_of}
use Rattle.map.specs.Memory.{base, table_words}
use Rattle.std.specs.Prelude.{Ok, Result, Err}
use Rattle.outcome.specs.Answers.{answer_of, numbered, Left, leaves, unless}
use Rattle.outcome.specs.declared.Refusal.{Refusal}
use Rattle.lists.specs.Lists.{overwrite}
use Rattle.map.specs.Empty.{zeros, empty_record, empty_refusal, empty_call}
use Rattle.map.specs.declared.Record.{Record}

pub emptying : (links pairs : List ℕ) → table_words base ≤ length links → table_words base ≤ length pairs
    → empty_call base links pairs ≡ leaves (Ok (empty_record base.words)) (overwrite (zeros (table_words base)) links, overwrite (zeros (table_words base)) pairs)
unfolding empty_call unless numbered empty_refusal first_of
emptying links pairs l p = rw (le-leb (table_words base) (length links) l, le-leb (table_words base) (length pairs) p)
