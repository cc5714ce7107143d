-- `repeats::Table::insert` meets its contract: an entry more, and a link that leads to it.
use Rattle.std.proofs.Common.{rules, arith, ◌+◌, ◌++◌, get_or, set, ◌∙◌, ap, refl, length-set}
use Rattle.repeats.specs.Helpers.Table.{place}
use Rattle.std.proofs.lemmas.List.{map-set}
use Rattle.std.proofs.Math.Seq.{map-set_same}
use Rattle.repeats.specs.declared.Entry.{Entry}
use Rattle.repeats.proofs.LinkLaws.{blank, in-root, in-child, root-set, child-set, children-kept}
use Rattle.repeats.proofs.Table.insert.Goals as goal

pub offset_bounds-self-tree : goal.offset_bounds-self-tree
offset_bounds-self-tree c = let h = in-root _ c.in-Root.is c.requires.0 in search rules

pub bounds-self-tree : goal.bounds-self-tree
bounds-self-tree c = in-root _ c.in-Root.is c.requires.0

pub offset_bounds-self-entry : goal.offset_bounds-self-entry
offset_bounds-self-entry c = omega (arith, (in-child _ c.in-Child.is c.requires.0).0, c.requires.2)

pub bounds-self-entry : goal.bounds-self-entry
bounds-self-entry c =
    let t = c.args.self.now in
    omega (arith, length-set t.entries.now t.count (record { far = c.args.far; children = (get_or t.entries.now t.count blank).children }), (in-child _ c.in-Child.is c.requires.0).0)

pub put-requires : goal.put-requires
put-requires c = (in-child _ c.in-Child.is c.requires.0).1

pub returns-in-Root-clause-links : goal.returns-in-Root-clause-links
returns-in-Root-clause-links c =
    let t = c.args.self.now in
    let i = c.in-Root.is in
    ap (λ l. set t.roots.now c.in-Root.tree (t.count + 1) ++ l) (children-kept t.entries.now t.count _ c.requires.1 refl)
    ∙ root-set t.roots.now t.entries.now _ i (in-root _ i c.requires.0)

pub returns-in-Root-clause-starts : goal.returns-in-Root-clause-starts
returns-in-Root-clause-starts c = let t = c.args.self.now in map-set (λ (e : Entry). t.from + e.far) _ _ _

pub returns-in-Child-clause-links : goal.returns-in-Child-clause-links
returns-in-Child-clause-links c =
    let t = c.args.self.now in
    let es = set t.entries.now t.count (record { far = c.args.far; children = (get_or t.entries.now t.count blank).children }) in
    let i = c.in-Child.is in
    let h = in-child _ i c.requires.0 in
    child-set t.roots.now es _ c.put.new.self i (rw (length-set t.entries.now t.count (record { far = c.args.far; children = (get_or t.entries.now t.count blank).children })) h) c.put.ensures.children
    ∙ ap (λ l. set (t.roots.now ++ l) (place t c.args.link) (t.count + 1)) (children-kept t.entries.now t.count _ c.requires.1 refl)

pub returns-in-Child-clause-starts : goal.returns-in-Child-clause-starts
returns-in-Child-clause-starts c =
    let t = c.args.self.now in
    map-set_same (λ (e : Entry). t.from + e.far) _ c.in-Child.entry c.put.new.self blank (ap (λ n. t.from + n) c.put.ensures.far)
    ∙ map-set (λ (e : Entry). t.from + e.far) _ _ _
