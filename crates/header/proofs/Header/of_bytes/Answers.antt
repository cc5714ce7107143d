-- `Header::of_bytes` meets its contract, field by field.
use Rattle.std.proofs.Common.{rules, ◌≡◌, ◌-◌, ◌∙◌, drop, get_or, length}
use Rattle.header.specs.Header.{header_at}
use Rattle.header.proofs.SumLaws.{name-last}
use Rattle.header.proofs.Header.of_bytes.Goals as goal

pub returns : goal.returns
unfolding header_at
returns c =
    let bytes = c.args.bytes.now in
    let last : c.unwrap.result.now ≡ drop (length bytes - 12) bytes = search rules in
    λ i. record {
      signature = get_or bytes 0 0;
      checksum = get_or bytes 1 0;
      length = record { 0 = c.of_bytes.ensures i };
      name = (last ∙ name-last bytes c.told-bytes) i;
    }
