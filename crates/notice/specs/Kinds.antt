-- THE KINDS OF FRAMES AS THE CODE HAS THEM: the byte of each (specs/Lines), and the kind of a byte. Nobody has to believe this file. Assumes nothing.
use Rattle.std.specs.Prelude.{◌≡◌, ℕ, Option, Some, None}
use Rattle.notice.specs.Lines.{opening_kind, link_kind, yard_kind}
use Rattle.notice.specs.declared.Kind.{Kind}
use Rattle.notice.specs.declared.Kind.TheVariants.{Depot, Link, Yard}

abbrev pub byte_of : Kind → ℕ
byte_of Depot = opening_kind
byte_of Link = link_kind
byte_of Yard = yard_kind

-- The answer is the kind whose byte this is, and None where it is that of no kind.
abbrev pub KindIs : ℕ → Option Kind → Type 0
KindIs byte (Some k) = byte_of k ≡ byte
KindIs byte None = (k : Kind) → byte_of k ≡ byte → ⊥
