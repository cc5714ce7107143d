-- `repeats::Table::entry` meets its contract: what stands at a link is read there.
use Rattle.std.proofs.Common.{rules, arith, ◌≡◌, ◌∙◌, sym}
use Rattle.repeats.specs.Helpers.Table.{above}
use Rattle.repeats.proofs.LinkLaws.{in-root, in-child, root-is, child-is, below-link}
use Rattle.repeats.proofs.Table.entry.Goals.{in-Root, in-Child}
use Rattle.repeats.proofs.Table.entry.Goals as goal

pub offset_bounds-self-tree : goal.offset_bounds-self-tree
offset_bounds-self-tree c = let h = in-root _ c.in-Root.is c.requires in search rules

pub bounds-self-tree : goal.bounds-self-tree
bounds-self-tree c = in-root _ c.in-Root.is c.requires

pub offset_bounds-self-entry : goal.offset_bounds-self-entry
offset_bounds-self-entry c = let h = in-child _ c.in-Child.is c.requires in search rules

pub offset_bounds-self-side : goal.offset_bounds-self-side
offset_bounds-self-side c = let h = in-child _ c.in-Child.is c.requires in omega (arith, h.1)

pub bounds-self-entry : goal.bounds-self-entry
bounds-self-entry c = (in-child _ c.in-Child.is c.requires).0

pub bounds-self-side : goal.bounds-self-side
bounds-self-side c = (in-child _ c.in-Child.is c.requires).1

pub returns : goal.returns
returns c =
    let t = c.args.self.now in
    let q : above t c.args.link ≡ c.match-link.above =
    elim c.match-link.branch [
      | in-Root w ↦ let i = w.in-Root.is in root-is t.roots.now t.entries.now i (in-root _ i c.requires) ∙ sym w.above-is
      | in-Child w ↦ let i = w.in-Child.is in child-is t.roots.now t.entries.now i (in-child _ i c.requires) ∙ sym w.above-is
    ] in
    below-link c.checked_sub.result (q ∙ sym c.from.ensures) c.checked_sub.ensures
