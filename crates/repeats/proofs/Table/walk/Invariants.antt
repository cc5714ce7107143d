-- `repeats::Table::walk` meets its contract. The invariant: the entries of that name are all ahead in the walk.
use Rattle.std.proofs.Common.{◌-◌, length}
use Rattle.repeats.specs.Helpers.Table.{HasLink, place, links_of, starts_of}
use Rattle.repeats.proofs.TableLaws.{Walk}
use Rattle.repeats.proofs.Table.walk.Given as goal

abbrev pub invariant-loop-entry : goal.invariant-loop-entry
invariant-loop-entry l =
    let t = l.self in
    HasLink t l.link × Walk t.pairs.now (links_of t) (starts_of t) t.count l.at l.hash (place t l.link) l.way

abbrev pub decreases-loop-entry : goal.decreases-loop-entry
decreases-loop-entry l = length (links_of l.self) - place l.self l.link
