-- What is put together in memory is the class over those above it.
use Rattle.std.proofs.Common.{◌≡◌, ◌<◌, ◌^◌, ℕ, List, [], ◌∷◌, ◌++◌, take, length, sym, ap, ◌∙◌}
use Rattle.std.specs.Prelude.{not}
use Rattle.mvm_layout.specs.declared.parts.Parts.{Parts}
use Rattle.mvm_shape.specs.Members.{same_text}
use Rattle.mvm_set.specs.Names.{own_name}
use Rattle.mvm_set.specs.Once.{without, once}
use Rattle.mvm_set.specs.ClassOf.{own_walk_name}
use Rattle.mvm_set.specs.Over.{file_of, itself, lines_of, walks_of, checked_of, enumerated_of, others_than, own_of, own_over, class_over, IsClass}
use Rattle.mvm_set.specs.declared.own.OwnWalk.{OwnWalk}
use Rattle.mvm_set.specs.declared.class.Lineage.{Lineage}
use Rattle.mvm_set.proofs.Once.{filter-map, once-once, once-map}

own_with : Parts → List Parts → OwnWalk
own_with file walk = record { file = file; walk = walk }

own_made : (file : Parts) (above across : List Lineage) → own_of file (others_than file (walks_of across ++ walks_of above)) ≡ own_over file above across
unfolding own_over own_with
own_made file above across =
    let rest = walks_of across ++ walks_of above in
    ap (λ (files : List Parts). own_with file (file ∷ files))
    (sym (ap (without own_name file) (once-map file_of own_name rest) ∙ filter-map file_of (λ other. not (same_text (own_name other) (own_name file))) (once own_walk_name rest)))

abbrev lineage_over : ℕ → Parts → List Lineage → List Lineage → OwnWalk → Lineage
lineage_over set file above across own = record {
  set = set;
  file = file;
  line = own ∷ lines_of above;
  walk = own ∷ others_than file (walks_of across ++ walks_of above);
  checked = own ∷ others_than file (checked_of above ++ checked_of across);
  superinterfaces = once own_walk_name (enumerated_of across);
}

made : (set : ℕ) (file : Parts) (above across : List Lineage) → lineage_over set file above across (own_of file (others_than file (walks_of across ++ walks_of above))) ≡ class_over set file above across
unfolding class_over own_over
made set file above across = ap (lineage_over set file above across) (own_made file above across)

pub class_made : (set : ℕ) (file : Parts) (above across : List Lineage) (own : OwnWalk) (line walk checked superinterfaces : List OwnWalk)
    → own ≡ own_of file (others_than file (walks_of across ++ walks_of above)) → line ≡ own ∷ lines_of above
    → walk ≡ own ∷ others_than file (walks_of across ++ walks_of above) → checked ≡ own ∷ others_than file (checked_of above ++ checked_of across)
    → superinterfaces ≡ once own_walk_name (enumerated_of across)
    → record { set = set; file = file; line = line; walk = walk; checked = checked; superinterfaces = superinterfaces } ≡ class_over set file above across
class_made set file above across own line walk checked superinterfaces e f g h k = rw (f, g, h, k, e) (made set file above across)

-- the class itself, in its lists
over_itself : (set : ℕ) (file : Parts) (above across : List Lineage) → own_over file above across ≡ itself (class_over set file above across)
unfolding class_over own_over own_with
over_itself set file above across = ap (own_with file) (once-map file_of own_name (own_over file above across ∷ walks_of across ++ walks_of above))

pub class_kept : (set : ℕ) (file : Parts) (above across : List Lineage) (lineage : Lineage) → lineage ≡ class_over set file above across → length lineage.walk < 2 ^ 32 → length lineage.superinterfaces < 2 ^ 32 → IsClass lineage
unfolding class_over
class_kept set file above across lineage e few few_superinterfaces =
    let own = own_over file above across in
    let walk : lineage.walk ≡ once own_walk_name (own ∷ walks_of across ++ walks_of above) = ap (λ (class : Lineage). class.walk) e in
    let checked : lineage.checked ≡ once own_walk_name (own ∷ checked_of above ++ checked_of across) = ap (λ (class : Lineage). class.checked) e in
    let line : lineage.line ≡ own ∷ lines_of above = ap (λ (class : Lineage). class.line) e in
    let superinterfaces : lineage.superinterfaces ≡ once own_walk_name (enumerated_of across) = ap (λ (class : Lineage). class.superinterfaces) e in
    record {
      first = ap (take 1) line ∙ ap (λ (one : OwnWalk). one ∷ []) (over_itself set file above across ∙ ap itself (sym e));
      few = few;
      few_superinterfaces = few_superinterfaces;
      walk_once = ap (once own_walk_name) walk ∙ once-once own_walk_name (own ∷ walks_of across ++ walks_of above) ∙ sym walk;
      checked_once = ap (once own_walk_name) checked ∙ once-once own_walk_name (own ∷ checked_of above ++ checked_of across) ∙ sym checked;
      superinterfaces_once = ap (once own_walk_name) superinterfaces ∙ once-once own_walk_name (enumerated_of across) ∙ sym superinterfaces;
    }
