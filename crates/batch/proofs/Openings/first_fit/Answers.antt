-- `batch::Openings::first_fit` meets its contract. The invariant: the first that fits is the first of those from the line reached on. The measure is what is
-- left of the length; a line that reads is not empty.
use mathlib.Core.List.{List}
use Prim.Native.Nat.{ℕ, ◌≤◌, ◌<◌}
use native.Mathlib.Omega.{arith}
use lib.ListN.{length, drop, length-take}
use Rattle.notice.proofs.Readings.{FrameStands, frame_read, garbled_read}
use Rattle.batch.specs.Lines.{batch_limit}
use Rattle.batch.proofs.Lines.{LineReads}
use Rattle.batch.proofs.Scans.{scan_reads, scan_line, scan_within, scan_number, scan_found, scan_more}
use Rattle.batch.proofs.Openings.first_fit.Goals as goal
use Rattle.batch.proofs.Openings.first_fit.Goals.{In-Ok}

-- the frame that was read from the line reached
read : (c : In-Ok) → (f : List ℕ) × LineReads (drop c.loop-at.at c.args.self.lines.now) f c.in-Ok.got.used
    × FrameStands f c.in-Ok.got.length c.read_notice.new.frame
read c =
    let got = frame_read _ _ (omega (arith, c.loop-at.invariant.1, c.requires.3)) c.in-Ok.is c.read_notice.ensures in
    (got.0, scan_line c.loop-at.invariant.0 got.1, got.2)

-- its number is that of a line, and its notice stands in the frame
placed : (c : In-Ok) → (c.loop-at.number < batch_limit) × (3 ≤ c.in-Ok.got.length) × (c.in-Ok.got.length ≤ length c.read_notice.new.frame)
placed c =
    let got = read c in (
      omega (arith, scan_number c.loop-at.invariant.0 got.1, c.args.self.counted, c.args.self.few),
      got.2.long,
      omega (arith, got.2.fits, c.loop-at.invariant.1, c.requires.3, c.read_notice.auto),
    )

pub slice_bounds-fits-end : goal.slice_bounds-fits-end
slice_bounds-fits-end c = (placed (goal.at.slice_bounds-fits-end c).In-Ok).2

pub slice_bounds-fits-end-in-loop-at : goal.slice_bounds-fits-end-in-loop-at
slice_bounds-fits-end-in-loop-at c =
    let at = placed (goal.at.slice_bounds-fits-end-in-loop-at c).In-Ok in
    omega (arith, at, length-take c.in-Ok.got.length c.read_notice.new.frame)

pub fits-requires : goal.fits-requires
fits-requires c =
    let at = placed (goal.at.fits-requires c).In-Ok in
    (c.requires.0, c.requires.1, c.requires.2, at.0, omega (arith, at, length-take c.in-Ok.got.length c.read_notice.new.frame))

pub returns-then-fits : goal.returns-then-fits
returns-then-fits c =
    let got = read (goal.at.returns-then-fits c).In-Ok in
    (scan_found c.loop-at.invariant.0 got.1 got.2 c.fits.ensures c.if-fits.true, placed (goal.at.returns-then-fits c).In-Ok)

pub overflow_add-at : goal.overflow_add-at
overflow_add-at c =
    omega (arith, scan_within c.loop-at.invariant.0 (read (goal.at.overflow_add-at c).In-Ok).1, c.well_formed)

pub loop-at-smaller : goal.loop-at-smaller
loop-at-smaller c =
    let got = read (goal.at.loop-at-smaller c).In-Ok in
    omega (arith, scan_within c.loop-at.invariant.0 got.1, got.1.some_used)

pub loop-at-preserved : goal.loop-at-preserved
loop-at-preserved c =
    let got = read (goal.at.loop-at-preserved c).In-Ok in (
      scan_more c.loop-at.invariant.0 got.1 got.2 c.fits.ensures c.if-fits.false,
      omega (arith, c.loop-at.invariant.1, c.read_notice.auto),
    )

pub returns-in_default : goal.returns-in_default
returns-in_default c =
    absurd (scan_reads c.loop-at.invariant.0 c.loop-at-test.true
    (garbled_read _ _ (omega (arith, c.loop-at.invariant.1, c.requires.3)) c.in_default.is c.read_notice.ensures).0)
