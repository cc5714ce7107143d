-- What is seen of a call once `common` is found: the outcome in its area, put into the image.
use Prim.Native.Nat.{ℕ, ◌+◌}
use mathlib.Core.Path.{◌≡◌, sym, ap, ◌∙◌}
use mathlib.Core.List.{List}
use lib.ListN.{length}
use Rattle.lists.specs.Bytes.{AllBytes}
use Rattle.lists.specs.Pasted.{pasted}
use Rattle.errors.specs.declared.Error.{Error}
use Rattle.errors.specs.Errors.{code_of, offset_of, moved}
use Rattle.names.specs.Name.{good}
use Rattle.partitions.specs.declared.Partition.{Partition}
use Rattle.std.specs.Prelude.{Ok}
use Rattle.partitions.specs.Find.{area_of}
use Rattle.partitions.specs.Cover.{area_at}
use Rattle.partitions.proofs.AreaLaws.{Among}
use Rattle.partitions.proofs.FrameLaws.{among-area, area-bytes}
use Rattle.pairs.specs.Rules.{Entry}
use Rattle.pairs.specs.Area.{parse}
use Rattle.variables.specs.Calls.{Call, lent, call_check, done, Outcome, refuse, call_by, call_area}
use Rattle.variables.proofs.CallLaws.{call-named}
use Rattle.nvram.specs.Common.{common_of}
use Rattle.nvram.specs.Calls.{told_at, refusal}
use Rattle.nvram.proofs.CommonLaws.{common-exactly, common-among}
use Rattle.nvram.proofs.CallLaws.{area_same, call-image}
use Rattle.demands.specs.Requests.{variable, Seen, refuses, tells}
use Rattle.demands.specs.Table.{AtPair, AreaBecomes}
use Rattle.demands.specs.Library.{seen_call, seen}
use Rattle.demands.proofs.TablePlaces.{pasted-becomes, becomes-pasted}

-- `common` stands at an offset
pub record CommonAt (I : List ℕ) (a : ℕ) : Type 0 where
  pub partition : Partition
  pub found : common_of I ≡ Ok partition
  pub at_offset : partition.offset ≡ a

pub pair-common : {I : List ℕ} {call : Call} {a : ℕ} {es : List Entry} {rest : List ℕ} → AllBytes I → AtPair call I a es rest → CommonAt I a
pair-common {I} bytes h =
    record { partition = h.partition; found = (common-exactly I bytes h.partition).1 h.holds; at_offset = h.at_offset }

-- an outcome in the area, as it is seen
abbrev pub seen_outcome : List ℕ → ℕ → Outcome → Seen
seen_outcome I a o = seen_call (record { told = told_at (a + 16) o.reply o.buffer; image = pasted I (a + 16) o.area })

module _ (I : List ℕ) (a : ℕ) (w : CommonAt I a) where
  among : Among I w.partition
  among = common-among I w.partition w.found

  area-here : area_of I (Ok w.partition) ≡ area_at I a
  area-here = among-area I w.partition among ∙ ap (area_at I) w.at_offset

  pub common-bytes : AllBytes I → AllBytes (area_at I a)
  common-bytes bytes = rw area-here at (area-bytes I (Ok w.partition) bytes)

  area-kept : pasted I (a + 16) (area_at I a) ≡ I
  area-kept = sym (λ i. pasted I (w.at_offset i + 16) (area-here i)) ∙ area_same I w.partition w.found

  -- the image that an edit leaves, and the relation that the table has for it
  pub edit-becomes : (area' : List ℕ) → length area' ≡ length (area_at I a) → AreaBecomes I a area' (pasted I (a + 16) area')
  edit-becomes area' n =
      rw w.at_offset at (pasted-becomes I w.partition among area' (n ∙ ap length (sym area-here)))

  pub becomes-edit : {area' J : List ℕ} → AreaBecomes I a area' J → pasted I (a + 16) area' ≡ J
  becomes-edit b = rw w.at_offset at (becomes-pasted I w.partition among (rw (← w.at_offset) at b))

  pub call-seen : (call : Call) → call_check call ≡ good → seen (variable call) I ≡ seen_outcome I a (call_by (parse (area_at I a)) call (area_at I a))
  call-seen call t =
      ap seen_call (call-image call I w.partition w.found)
      ∙ (λ i. seen_outcome I (w.at_offset i) (call_area call (area-here i)))
      ∙ ap (seen_outcome I a) (call-named call (area_at I a) t)

  -- a refusal in the area
  pub refuse-seen : (call : Call) (e : Error)
      → seen_outcome I a (refuse e call (area_at I a)) ≡ refuses (variable call) I (code_of (moved (a + 16) e)) (offset_of (moved (a + 16) e))
  refuse-seen call e =
      λ i. seen_call (record { told = refusal (moved (a + 16) e) (lent call); image = area-kept i })

  -- an answer that leaves the area
  pub answer-seen : (amount : ℕ) (buffer : List ℕ)
      → seen_outcome I a (record { reply = done amount; buffer = buffer; area = area_at I a }) ≡ tells amount buffer I
  answer-seen amount buffer = λ i. tells amount buffer (area-kept i)
