-- `line_len` meets its contract.
use Rattle.std.proofs.Common.{◌≡◌, ◌∙◌, ap, arith, length}
use Rattle.header.specs.declared.Header.{Header}
use Rattle.header.specs.Header.{header_at}
use Rattle.listing.specs.Text.{shown_name}
use Rattle.listing.proofs.WordLaws.{shown_length, name_twelve, line_length}
use Rattle.listing.proofs.line_len.Goals as goal
use Rattle.listing.proofs.line_len.Goals.{After-name_len}

-- the bytes that are shown of the name
shown : (c : After-name_len) → c.name_len.result ≡ length (shown_name (header_at c.args.image.now c.args.p.offset).name)
shown c = c.name_len.ensures ∙ shown_length _ ∙ ap (λ (h : Header). length (shown_name h.name)) c.read.ensures

pub overflow_add-result-2 : goal.overflow_add-result-2
overflow_add-result-2 c = omega (arith, shown (goal.at.overflow_add-result-2 c).After-name_len, name_twelve c.args.image.now c.args.p.offset)

pub overflow_add-result-3 : goal.overflow_add-result-3
overflow_add-result-3 c = omega (arith, shown (goal.at.overflow_add-result-3 c).After-name_len, name_twelve c.args.image.now c.args.p.offset)

pub returns : goal.returns
returns c = omega (arith, shown (goal.at.returns c).After-name_len, line_length c.args.image.now c.args.p)
