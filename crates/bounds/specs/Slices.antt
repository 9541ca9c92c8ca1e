-- THE MARKS THAT ARE LENT IN A STRUCT AS ONE VALUE, so that a contract names them once; and that it lends the same tables after a call.
-- Assumes nothing.
use Rattle.std.specs.Prelude.{ℕ}
use Rattle.map.specs.Slices.{IsSameSlice}
use Rattle.bounds.specs.Bounds.{Marks, marks, Fits}
use Rattle.bounds.specs.declared.Marks.{Marks as LentMarks}
use Rattle.ranks.specs.Ranks.{waiting_of}

-- the marks of W words
abbrev pub marks_in : ℕ → LentMarks → Marks
marks_in W m = marks m.bounds.now m.skips.now (waiting_of W m.ranks.now)

-- they have the sizes that the inner functions ask
abbrev pub MarksFit : ℕ → LentMarks → Type 0
MarksFit W m = Fits W m.bounds.now m.skips.now m.ranks.now

-- each field lends the buffer that it lent
pub record IsSameMarks (m n : LentMarks) : Type 0 where
  pub bounds : IsSameSlice m.bounds n.bounds
  pub skips : IsSameSlice m.skips n.skips
  pub ranks : IsSameSlice m.ranks n.ranks
