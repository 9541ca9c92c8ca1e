-- THE VERSION OF THE INTERFACE: what a program can compare with the header that it was written
-- with. Assumes nothing.
use Rattle.std.specs.Prelude.{ℕ, ◌+◌, ◌*◌}

-- A thousand times the major number, and the minor one. The major number rises where a program that
-- was built with the header before would no longer do the same: arguments, sizes, numbers or
-- promises changed. The minor one rises where something was added and all that was there stayed; it
-- is 0 again with a new major number.
abbrev pub interface_version : ℕ
interface_version = 4 * 1000 + 1
