-- Lists that are short enough for their counts.
use Rattle.std.proofs.Common.{◌≡◌, ℕ, ◌<◌, ◌≤◌, ◌^◌, true, List, length, arith}
use Rattle.std.specs.Prelude.{nat_lt}
use Rattle.std.specs.List.{AllPass}
use Rattle.std.proofs.lemmas.Bool.{ltb-true, and_parts}
use Rattle.std.proofs.lemmas.List.Sums.{AllPass-from_list_all}
use Rattle.mvm_base.proofs.Units.{units_spelled}
use Rattle.mvm_base.specs.ModifiedUtf8.{spelled_all}
use Rattle.mvm_layout.specs.declared.parts.Item.TheVariants.{Utf8}
use Rattle.mvm_layout.specs.declared.parts.Member.{Member}
use Rattle.mvm_layout.specs.declared.parts.Parts.{Parts}
use Rattle.mvm_classfile.specs.Writing.{fits_item, fits_code, lists_fit, has_few_bytes, is_countable}

pub few_units : (text : List ℕ) → fits_item (Utf8 text) ≡ true → length text < 2 ^ 32
few_units text h =
    let short = ltb-true (length (spelled_all text)) (2 ^ 16) h in
    let units = units_spelled text in
    omega (arith, short, units)

few : (n : ℕ) → nat_lt n (2 ^ 16) ≡ true → n ≤ 65535
few n h = let l = ltb-true n (2 ^ 16) h in omega (arith, l)

pub record Countable (parts : Parts) : Type 0 where
  pub methods : length parts.methods ≤ 65535
  pub texts : AllPass fits_item parts.pool
  pub rows : AllPass (λ (member : Member). fits_code member.code) parts.methods
  pub bytes : AllPass (λ (member : Member). has_few_bytes member.code) parts.methods

pub countable : (parts : Parts) → is_countable parts ≡ true → Countable parts
unfolding is_countable lists_fit
countable parts h =
    let all = and_parts _ _ h in
    let rows = and_parts _ _ all.0 in
    let fields_rows = and_parts _ _ rows.0 in
    let methods = and_parts _ _ fields_rows.0 in
    let fields = and_parts _ _ methods.0 in
    let interfaces = and_parts _ _ fields.0 in
    let texts = and_parts _ _ interfaces.0 in
    record {
      methods = few (length parts.methods) methods.1;
      texts = AllPass-from_list_all fits_item parts.pool texts.1;
      rows = AllPass-from_list_all (λ (member : Member). fits_code member.code) parts.methods rows.1;
      bytes = AllPass-from_list_all (λ (member : Member). has_few_bytes member.code) parts.methods all.1;
    }
