-- `repeats::Entry::put` meets its contract: one of the two links changes.
use Rattle.std.proofs.Common.{rules, ◌≡◌, length}
use Rattle.repeats.proofs.LinkLaws.{pair-set}
use Rattle.repeats.proofs.Entry.put.Goals as goal

pub returns-clause-children : goal.returns-clause-children
returns-clause-children c =
    let two : length c.args.self.now.children ≡ 2 = search rules in
    pair-set _ c.args.self.now.children _ _ c.requires two
