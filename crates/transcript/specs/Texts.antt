-- TEXTS AS BYTES, so that inputs and outputs stand as the rules print them. Assumes nothing.
use Rattle.std.specs.Prelude.{List, [], ◌∷◌, ℕ}
use Prim.Native.Char.{code}
use Prim.Native.String.{String}
use Prim.Native.String as Text

-- the bytes of a text of ASCII
unfoldable pub bytes_in : String → List ℕ
bytes_in Text.[] = []
bytes_in (Text.◌∷◌ c s) = code c ∷ bytes_in s
