-- `edits::shift_tail` meets its contract: the tail is moved, and what follows it is filled with 0x00.
use Rattle.edits.proofs.PutLaws.{tail-shifted}
use Rattle.edits.proofs.shift_tail.Goals as goal

pub returns : goal.returns
returns c =
    let a = c.args in
    tail-shifted a.area.now a.rest a.to a.used c.requires.0 c.requires.1 c.requires.2
    c.move_bytes.new.s c.move_bytes.ensures c.fill.new.s c.fill.ensures
