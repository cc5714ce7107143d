-- `Header::read` meets its contract: a whole header by its bytes, and one that is cut off byte by byte.
use Rattle.std.proofs.Common.{ℕ, ◌+◌, ◌≡◌, ◌∙◌, ap, get_or, arith}
use Rattle.header.specs.Header.{header_at}
use Rattle.header.proofs.SameLaws.{header-alike, header-whole}
use Rattle.header.proofs.Header.read.Goals as goal

pub returns-in-Some : goal.returns-in-Some
returns-in-Some c =
    let a = c.args in
    c.of_bytes.ensures ∙ ap (λ l. header_at l 0) c.in-Some.ensures.1 ∙ header-whole a.image.now a.at

pub returns-in-None : goal.returns-in-None
returns-in-None c =
    let a = c.args in
    let bytes = c.cut_off.result in
    c.of_bytes-in-None.ensures ∙ header-alike bytes a.image.now 0 a.at (λ k h.
    let e : 0 + k ≡ k = omega arith in
    ap (λ (n : ℕ). get_or bytes n 0) e ∙ c.cut_off.ensures k h)
