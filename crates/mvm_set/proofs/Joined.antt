-- What is put together from the classes above a file is the class of the whole family.
use Rattle.std.proofs.Common.{◌≡◌, ℕ, List, [], ◌∷◌, ◌++◌, map, refl, sym, ap, ◌∙◌, append_assoc}
use Rattle.mvm_layout.specs.declared.parts.Parts.{Parts}
use Rattle.mvm_set.specs.Names.{own_name}
use Rattle.mvm_set.specs.Once.{without, once}
use Rattle.mvm_set.specs.Family.{Family, family, Families, none, more, file, name, line, lines, visited, all_visited, walk, order, orders, checked, enumerated, all_enumerated, superinterfaces}
use Rattle.mvm_set.specs.ClassOf.{own_walk_name, own_walk, class_of, classes_of}
use Rattle.mvm_set.specs.Over.{file_of, itself, lines_of, walks_of, checked_of, enumerated_of, own_over, class_over}
use Rattle.mvm_set.specs.declared.own.OwnWalk.{OwnWalk}
use Rattle.mvm_set.specs.declared.class.Lineage.{Lineage}
use Rattle.mvm_set.proofs.Once.{once-once, once-left, once-before, once-behind, once-map}

map-append : {A B : Type 0} (f : A → B) (xs ys : List A) → map f (xs ++ ys) ≡ map f xs ++ map f ys
map-append f [] ys = refl
map-append f (x ∷ xs) ys = ap (λ (zs : List _). f x ∷ zs) (map-append f xs ys)

-- ---- the lists of families, one after the other

abbrev walks_in : Families → List Family
walks_in none = []
walks_in (more one others) = walk one ++ walks_in others

abbrev checked_in : Families → List Family
checked_in none = []
checked_in (more one others) = checked one ++ checked_in others

abbrev enumerated_in : Families → List Family
enumerated_in none = []
enumerated_in (more one others) = superinterfaces one ++ one ∷ enumerated_in others

lines-are : (set : ℕ) (ones : Families) → lines_of (classes_of set ones) ≡ map own_walk (lines ones)
unfolding class_of line
lines-are set none = refl
lines-are set (more one others) = ap (λ (zs : List OwnWalk). map own_walk (line one) ++ zs) (lines-are set others) ∙ sym (map-append own_walk (line one) (lines others))

walks-are : (set : ℕ) (ones : Families) → walks_of (classes_of set ones) ≡ map own_walk (walks_in ones)
unfolding class_of
walks-are set none = refl
walks-are set (more one others) = ap (λ (zs : List OwnWalk). map own_walk (walk one) ++ zs) (walks-are set others) ∙ sym (map-append own_walk (walk one) (walks_in others))

checked-are : (set : ℕ) (ones : Families) → checked_of (classes_of set ones) ≡ map own_walk (checked_in ones)
unfolding class_of
checked-are set none = refl
checked-are set (more one others) = ap (λ (zs : List OwnWalk). map own_walk (checked one) ++ zs) (checked-are set others) ∙ sym (map-append own_walk (checked one) (checked_in others))

rest-are : (set : ℕ) (across above : Families) → walks_of (classes_of set across) ++ walks_of (classes_of set above) ≡ map own_walk (walks_in across ++ walks_in above)
rest-are set across above =
    ap (λ (zs : List OwnWalk). zs ++ walks_of (classes_of set above)) (walks-are set across)
    ∙ ap (λ (zs : List OwnWalk). map own_walk (walks_in across) ++ zs) (walks-are set above)
    ∙ sym (map-append own_walk (walks_in across) (walks_in above))

-- ---- each class once

walks-once : (ones : Families) → once name (walks_in ones) ≡ once name (all_visited ones)
unfolding walk visited
walks-once none = refl
walks-once (more one others) =
    once-before name (walk one) (visited one) (walks_in others) (once-once name (visited one))
    ∙ once-behind name (visited one) (walks_in others) (all_visited others) (walks-once others)

checked-once : (ones : Families) → once name (checked_in ones) ≡ once name (orders ones)
unfolding checked order
checked-once none = refl
checked-once (more one others) =
    once-before name (checked one) (order one) (checked_in others) (once-once name (order one))
    ∙ once-behind name (order one) (checked_in others) (orders others) (checked-once others)

enumerated-once : (ones : Families) → once name (enumerated_in ones) ≡ once name (all_enumerated ones)
unfolding superinterfaces enumerated
enumerated-once none = refl
enumerated-once (more (family parts above across) others) =
    let one = family parts above across in
    once-left name (all_enumerated across) (one ∷ enumerated_in others)
    ∙ once-behind name (all_enumerated across) (one ∷ enumerated_in others) (one ∷ all_enumerated others) (ap (λ (zs : List Family). one ∷ without name one zs) (enumerated-once others))
    ∙ ap (once name) (sym (append_assoc (all_enumerated across) (one ∷ []) (all_enumerated others)))

walk-over : (parts : Parts) (above across : Families) → once name (family parts above across ∷ walks_in across ++ walks_in above) ≡ walk (family parts above across)
unfolding walk visited
walk-over parts above across =
    ap (λ (zs : List Family). family parts above across ∷ without name (family parts above across) zs)
    (once-before name (walks_in across) (all_visited across) (walks_in above) (walks-once across)
    ∙ once-behind name (all_visited across) (walks_in above) (all_visited above) (walks-once above))

checked-over : (parts : Parts) (above across : Families) → once name (family parts above across ∷ checked_in above ++ checked_in across) ≡ checked (family parts above across)
unfolding checked order
checked-over parts above across =
    ap (λ (zs : List Family). family parts above across ∷ without name (family parts above across) zs)
    (once-before name (checked_in above) (orders above) (checked_in across) (checked-once above)
    ∙ once-behind name (orders above) (checked_in across) (orders across) (checked-once across))

-- ---- a file with its walk

files-are : (ones : List Family) → map file_of (map own_walk ones) ≡ map file ones
unfolding own_walk
files-are [] = refl
files-are (one ∷ ones) = ap (λ (zs : List Parts). file one ∷ zs) (files-are ones)

own_with : Parts → List Parts → OwnWalk
own_with file walk = record { file = file; walk = walk }

own-over : (set : ℕ) (parts : Parts) (above across : Families) → own_over parts (classes_of set above) (classes_of set across) ≡ own_walk (family parts above across)
unfolding own_over own_walk own_with
own-over set parts above across =
    ap (own_with parts)
    (ap (λ (zs : List OwnWalk). once own_name (parts ∷ map file_of zs)) (rest-are set across above)
    ∙ ap (λ (zs : List Parts). once own_name (parts ∷ zs)) (files-are (walks_in across ++ walks_in above))
    ∙ once-map file own_name (family parts above across ∷ walks_in across ++ walks_in above)
    ∙ ap (map file) (walk-over parts above across))

-- ---- superinterfaces

class-itself : (set : ℕ) (one : Family) → itself (class_of set one) ≡ own_walk one
unfolding class_of own_walk own_with
class-itself set one = ap (own_with (file one)) (files-are (walk one))

enumerated-are : (set : ℕ) (ones : Families) → enumerated_of (classes_of set ones) ≡ map own_walk (enumerated_in ones)
unfolding class_of
enumerated-are set none = refl
enumerated-are set (more one others) =
    ap (λ (own : OwnWalk). map own_walk (superinterfaces one) ++ own ∷ enumerated_of (classes_of set others)) (class-itself set one)
    ∙ ap (λ (zs : List OwnWalk). map own_walk (superinterfaces one) ++ own_walk one ∷ zs) (enumerated-are set others)
    ∙ sym (map-append own_walk (superinterfaces one) (one ∷ enumerated_in others))

all_superinterfaces : (set : ℕ) (parts : Parts) (above across : Families) → once own_walk_name (enumerated_of (classes_of set across)) ≡ map own_walk (superinterfaces (family parts above across))
unfolding own_walk superinterfaces
all_superinterfaces set parts above across =
    ap (once own_walk_name) (enumerated-are set across)
    ∙ once-map own_walk own_walk_name (enumerated_in across)
    ∙ ap (map own_walk) (enumerated-once across)

-- ---- the class

all_walk : (set : ℕ) (parts : Parts) (above across : Families) → once own_walk_name (own_walk (family parts above across) ∷ map own_walk (walks_in across ++ walks_in above)) ≡ map own_walk (walk (family parts above across))
unfolding own_walk
all_walk set parts above across =
    once-map own_walk own_walk_name (family parts above across ∷ walks_in across ++ walks_in above)
    ∙ ap (map own_walk) (walk-over parts above across)

all_checked : (set : ℕ) (parts : Parts) (above across : Families)
    → once own_walk_name (own_walk (family parts above across) ∷ checked_of (classes_of set above) ++ checked_of (classes_of set across)) ≡ map own_walk (checked (family parts above across))
unfolding own_walk
all_checked set parts above across =
    let own = own_walk (family parts above across) in
    ap (λ (zs : List OwnWalk). once own_walk_name (own ∷ zs ++ checked_of (classes_of set across))) (checked-are set above)
    ∙ ap (λ (zs : List OwnWalk). once own_walk_name (own ∷ map own_walk (checked_in above) ++ zs)) (checked-are set across)
    ∙ ap (λ (zs : List OwnWalk). once own_walk_name (own ∷ zs)) (sym (map-append own_walk (checked_in above) (checked_in across)))
    ∙ once-map own_walk own_walk_name (family parts above across ∷ checked_in above ++ checked_in across)
    ∙ ap (map own_walk) (checked-over parts above across)

abbrev lineage_with : ℕ → Parts → List OwnWalk → List OwnWalk → List OwnWalk → List OwnWalk → Lineage
lineage_with set file line walk checked superinterfaces = record { set = set; file = file; line = line; walk = walk; checked = checked; superinterfaces = superinterfaces }

pub class_law : (set : ℕ) (parts : Parts) (above across : Families) → class_over set parts (classes_of set above) (classes_of set across) ≡ class_of set (family parts above across)
unfolding class_over class_of line
class_law set parts above across =
    let one = family parts above across in
    let rest = walks_of (classes_of set across) ++ walks_of (classes_of set above) in
    let checks = checked_of (classes_of set above) ++ checked_of (classes_of set across) in
    let enumerated = enumerated_of (classes_of set across) in
    let over : OwnWalk → List OwnWalk → List OwnWalk → Lineage = λ own behind rest. lineage_with set parts (own ∷ behind) (once own_walk_name (own ∷ rest)) (once own_walk_name (own ∷ checks)) (once own_walk_name enumerated) in
    let lines_one = own_walk one ∷ map own_walk (lines above) in
    ap (λ (own : OwnWalk). over own (lines_of (classes_of set above)) rest) (own-over set parts above across)
    ∙ ap (λ (zs : List OwnWalk). over (own_walk one) zs rest) (lines-are set above)
    ∙ ap (λ (zs : List OwnWalk). over (own_walk one) (map own_walk (lines above)) zs) (rest-are set across above)
    ∙ ap (λ (zs : List OwnWalk). lineage_with set parts lines_one zs (once own_walk_name (own_walk one ∷ checks)) (once own_walk_name enumerated)) (all_walk set parts above across)
    ∙ ap (λ (zs : List OwnWalk). lineage_with set parts lines_one (map own_walk (walk one)) zs (once own_walk_name enumerated)) (all_checked set parts above across)
    ∙ ap (λ (zs : List OwnWalk). lineage_with set parts lines_one (map own_walk (walk one)) (map own_walk (checked one)) zs) (all_superinterfaces set parts above across)
