-- `feeding::tell_all`: what was read is answered, and the end is told.
use Rattle.std.proofs.Common.{arith}
use Rattle.stream.proofs.Theorems.{stands_ready}
use Rattle.feeding.proofs.Whole.{told_stopped, told_whole, told_cut}
use Rattle.feeding.proofs.tell_all.Goals as goal

pub answer_all-ended-requires : goal.answer_all-ended-requires
answer_all-ended-requires g c = (stands_ready _ c.requires.begun, c.requires.room.0, c.requires.room.1)

pub returns-in-Stopped : goal.returns-in-Stopped
returns-in-Stopped g c = told_stopped _ _ _ c.requires.begun _ _ _ _ c.in-Stopped.is c.answer_all-ended.ensures.reads

pub returns-in-Ok : goal.returns-in-Ok
returns-in-Ok g c =
    told_whole _ _ _ c.requires.begun _ _ _ _ _ _ (omega (arith, c.requires.room.0, c.answer_all-ended.auto.out))
    c.in-Whole.is c.answer_all-ended.ensures.reads c.in-Ok.ensures

pub returns-in-Err : goal.returns-in-Err
returns-in-Err g c =
    told_cut _ _ _ c.requires.begun _ _ _ _ _ _ (omega (arith, c.requires.room.0, c.answer_all-ended.auto.out))
    c.in-Err.why c.in-Whole.is c.answer_all-ended.ensures.reads c.in-Err.ensures
