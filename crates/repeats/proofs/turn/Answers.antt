-- `repeats::turn` meets its contract: a new table has gathered nothing.
use Rattle.std.proofs.Common.{◌∙◌, replicate}
use lib.ListN.{length-replicate}
use Rattle.repeats.specs.declared.Entry.{Entry}
use Rattle.repeats.proofs.LinkLaws.{new, links-new, starts-many}
use Rattle.repeats.proofs.TableLaws.{new-trees}
use Rattle.repeats.proofs.BlockLaws.{new-block}
use Rattle.repeats.proofs.turn.Goals as goal

pub gather-gathered-requires : goal.gather-gathered-requires
gather-gathered-requires g c =
    let n = g.row.N in
    let o = c.requires.0 in
    let e = starts-many c.args.from (replicate n new) ∙ length-replicate {A = Entry} n new in
    (new-block (new-trees c.args.pairs.now _ _ n (links-new n) e c.requires.1 c.requires.2) o, o.below)
