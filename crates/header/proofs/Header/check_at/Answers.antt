-- `Header::check_at` meets its contract: a header that is cut off breaks 2 or 3, and a whole one is judged by its bytes.
use Rattle.std.proofs.Common.{◌≡◌, ◌∙◌, ap, sym, arith}
use Rattle.header.specs.declared.Header.{Header}
use Rattle.header.specs.Checksum.{sumcheck}
use Rattle.header.specs.Header.{header_at, covered_bytes, first_broken}
use Rattle.header.proofs.RuleLaws.{length-read, checksum-read, cut-read, whole-read}
use Rattle.header.proofs.SameLaws.{header-whole}
use Rattle.header.proofs.Header.check_at.Goals as goal

pub returns-in-Some : goal.returns-in-Some
returns-in-Some c =
    let a = c.args in
    let bytes = c.in-Some.bytes.now in
    let same : header_at bytes 0 ≡ header_at a.image.now a.at = ap (λ l. header_at l 0) c.in-Some.ensures.1 ∙ header-whole a.image.now a.at in
    let stored = ap (λ (h : Header). h.checksum) same ∙ checksum-read a.image.now a.at in
    whole-read a.image.now a.at c.of_bytes-length.result
    ((λ i. record { 0 = c.of_bytes-length.ensures i }) ∙ length-read bytes 0 ∙ ap (λ (h : Header). h.length) same)
    c.saturating_sub-room.result c.saturating_sub-room.ensures c.first_broken.result c.checksum_of_whole-computed.result
    (c.checksum_of_whole-computed.ensures ∙ ap (λ (h : Header). sumcheck (covered_bytes h)) same)
    (c.first_broken.ensures ∙ (λ i. first_broken c.of_bytes-length.result ((sym (checksum-read bytes 0) ∙ stored) i) c.checksum_of_whole-computed.result a.at c.saturating_sub-room.result))

pub returns-in-None : goal.returns-in-None
returns-in-None c =
    let a = c.args in
    cut-read a.image.now a.at c.length_at.result c.length_at.ensures c.saturating_sub-room.result c.saturating_sub-room.ensures
    c.first_broken-in-None.result (omega (arith, c.saturating_sub-room.ensures, c.in-None.ensures)) c.first_broken-in-None.ensures
