-- What the finds and the selections mean.
use Rattle.std.proofs.Common.{◌≡◌, ℕ, Bool, true, false, cond, List, Option, Some, None, Result, Ok, Err, refl, sym, ap, subst}
use Rattle.std.specs.Prelude.{not, ◌&&◌, ◌||◌, map}
use Rattle.std.specs.List.{find}
use Rattle.std.proofs.lemmas.Bool.{and_parts}
use Rattle.mvm_layout.specs.declared.parts.Parts.{Parts}
use Rattle.mvm_set.specs.ClassOf.{own_walk, class_of}
use Rattle.mvm_set.specs.Family.{Family, family, Families, file, line, visited, walk}
use Rattle.mvm_set.specs.Members.{flags_at}
use Rattle.mvm_set.specs.Names.{is_interface}
use Rattle.mvm_set.specs.declared.fault.LinkFault.{LinkFault}
use Rattle.mvm_set.specs.declared.fault.LinkFault.TheVariants.{Abstract, Access, NoMethod}
use Rattle.mvm_set.specs.declared.found.MethodAt.{MethodAt}
use Rattle.mvm_set.specs.declared.own.OwnWalk.{OwnWalk}
use Rattle.mvm_select.specs.Families.{Stands, IsWhole, IsKnown, IsFirst, IsNone}
use Rattle.mvm_select.specs.Meaning.{IsThere, IsOfInterface, IsInstance, IsOverriding, IsOfStart, Resolves, in_line, by_rule, declared_first, nowhere, not_abstract, public_not_abstract, Selects, from_line, from_interfaces, Answered}
use Rattle.mvm_select.specs.Methods.{Methods, is_there, without_flag, is_public, is_instance, is_not_private, is_abstract}
use Rattle.mvm_select.specs.MostSpecific.{declares, supers, ruled, IsRuled, one, many, nothing}
use Rattle.mvm_select.specs.Resolution.{or_no_method, or_first_declared, of_superinterfaces, or_of_superinterfaces, resolved, is_of_interface, interface_resolved}
use Rattle.mvm_select.specs.Selection.{or_ruled, nearest_overriding, selected, or_ruled_if_public, interface_selected, is_of_start, selected_from}
use Rattle.mvm_select.specs.Told.{method_found, interface_method_found, Named, named, selection, told, virtual_selection, interface_selection, special_selection}
use Rattle.mvm_select.proofs.Lists.{In, in_middle}
use Rattle.mvm_select.proofs.Trees.{inherits_stands, line_stands}
use Rattle.mvm_select.proofs.Walks.{supers_inherit}
use Rattle.mvm_select.proofs.Ruling.{ruled_law}
use Rattle.mvm_select.proofs.Selecting.{Nearest, found_one, found_none, nearest_by, virtual_nearest}
use Rattle.mvm_select.proofs.Telling.{Answers, telling}

-- ---- what stands in the class's walk, and has the method

without_there : (n : ℕ) (method : Option ℕ) → without_flag n method ≡ true → is_there method ≡ true
without_there n (Some flags) e = refl
without_there n None e = absurd cc

declared_there : (flags : Methods) (base : Parts) → declares flags base ≡ true → is_there (flags base) ≡ true
unfolding declares
declared_there flags base e = without_there _ (flags base) (and_parts (is_interface base && is_not_private (flags base)) (is_instance (flags base)) e).1

first_stands : {Wanted : Family → Type 0} (class : Family) (x : Family) → IsFirst Wanted (line class) x → Stands class x
first_stands class x f = line_stands class x (subst (λ (zs : List Family). In zs x) (sym f.splits) (in_middle f.before f.behind x))

ruled_answers : (flags : Methods) (class : Family) (answer : Result Parts LinkFault) → IsRuled flags class answer → Answers flags class answer
ruled_answers flags class answer (one only m unique e) =
    subst (Answers flags class) (sym e) (only, inherits_stands m.is_most_specific.is_super, refl, declared_there flags (file only) m.is_most_specific.is_declared)
ruled_answers flags class answer (many some other m n d e) = subst (Answers flags class) (sym e) tt
ruled_answers flags class answer (nothing n e) = subst (Answers flags class) (sym e) tt

-- ---- selection

abbrev AreThere : Methods → (Family → Type 0) → Type 0
AreThere flags Wanted = (x : Family) → Wanted x → is_there (flags (file x)) ≡ true

-- what is taken is the method itself, or it is refused
abbrev Takes : Methods → (Parts → Result Parts LinkFault) → Type 0
Takes flags taken = (class x : Family) → Stands class x → is_there (flags (file x)) ≡ true → Answers flags class (taken (file x))

selects_answers : (flags : Methods) (Wanted : Family → Type 0) (taken : Parts → Result Parts LinkFault) (class : Family) (answer : Result Parts LinkFault)
    → AreThere flags Wanted → Takes flags taken → Selects flags Wanted taken class answer → Answers flags class answer
selects_answers flags Wanted taken class answer there takes (from_line x f e) =
    subst (Answers flags class) (sym e) (takes class x (first_stands class x f) (there x f.is_wanted))
selects_answers flags Wanted taken class answer there takes (from_interfaces n r) = ruled_answers flags class answer r

takes_not_abstract : (flags : Methods) → Takes flags (not_abstract flags)
takes_not_abstract flags class x s t = by (is_abstract (flags (file x)))
  where
    by : (b : Bool) → Answers flags class (cond b (Err Abstract) (Ok (file x)))
    by true = tt
    by false = (x, s, refl, t)

takes_public : (flags : Methods) → Takes flags (public_not_abstract flags)
takes_public flags class x s t = by (is_public (flags (file x)))
  where
    by : (b : Bool) → Answers flags class (cond b (not_abstract flags (file x)) (Err Access))
    by true = takes_not_abstract flags class x s t
    by false = tt

abbrev Own : Type 0
Own = OwnWalk

-- by what is found in the line, and the rule of one
selects : (flags : Methods) (Wanted : Family → Type 0) (set : ℕ) (class : Family) → IsWhole class → (found : Option Own) → Nearest Wanted (line class) found
    → Selects flags Wanted (not_abstract flags) class (or_ruled flags (class_of set class).walk found)
unfolding own_walk
selects flags Wanted set class whole found (found_one x f e) = from_line x f (ap (or_ruled flags (class_of set class).walk) e)
selects flags Wanted set class whole found (found_none n e) =
    from_interfaces n (subst (IsRuled flags class) (sym (ap (or_ruled flags (class_of set class).walk) e)) (ruled_law flags set class whole))

selects_public : (flags : Methods) (Wanted : Family → Type 0) (set : ℕ) (class : Family) → IsWhole class → (found : Option Own) → Nearest Wanted (line class) found
    → Selects flags Wanted (public_not_abstract flags) class (or_ruled_if_public flags (class_of set class).walk found)
unfolding own_walk
selects_public flags Wanted set class whole found (found_one x f e) = from_line x f (ap (or_ruled_if_public flags (class_of set class).walk) e)
selects_public flags Wanted set class whole found (found_none n e) =
    from_interfaces n (subst (IsRuled flags class) (sym (ap (or_ruled_if_public flags (class_of set class).walk) e)) (ruled_law flags set class whole))

virtual_means : (flags : Methods) (base : Parts) (set : ℕ) (class : Family) → IsWhole class → IsKnown base class
    → Selects flags (IsOverriding flags base) (not_abstract flags) class (selected flags base (class_of set class))
unfolding selected
virtual_means flags base set class whole known =
    selects flags (IsOverriding flags base) set class whole (nearest_overriding flags base (class_of set class)) (virtual_nearest flags base set class whole known)

interface_means : (flags : Methods) (set : ℕ) (class : Family) → IsWhole class → Selects flags (IsInstance flags) (public_not_abstract flags) class (interface_selected flags (class_of set class))
unfolding interface_selected class_of own_walk
interface_means flags set class whole =
    selects_public flags (IsInstance flags) set class whole (find (λ (own : Own). is_instance (flags own.file)) (map own_walk (line class)))
    (nearest_by (λ (own : Own). is_instance (flags own.file)) (line class))

special_means : (flags : Methods) (set : ℕ) (class : Family) → IsWhole class → Selects flags (IsOfStart flags class) (not_abstract flags) class (selected_from flags (class_of set class))
unfolding selected_from class_of own_walk
special_means flags set class whole =
    selects flags (IsOfStart flags class) set class whole (find (is_of_start flags (is_interface (file class))) (map own_walk (line class)))
    (nearest_by (is_of_start flags (is_interface (file class))) (line class))

-- ---- what selection calls answer

answered : (name desc : List ℕ) (set : ℕ) (class : Family) → IsWhole class → (Means : Result Parts LinkFault → Type 0) (answer : Result Parts LinkFault) → Means answer
    → Answers (flags_at name desc) class answer → (missing : LinkFault) → Answered name desc (class_of set class) Means (told missing name desc (class_of set class).walk answer)
answered name desc set class whole Means answer m a missing = record { answer = answer; means = m; tells = telling missing name desc set class whole answer a }

instances_there : (flags : Methods) → AreThere flags (IsInstance flags)
instances_there flags x w = without_there _ (flags (file x)) w

overriding_there : (flags : Methods) (base : Parts) → AreThere flags (IsOverriding flags base)
overriding_there flags base x w = without_there _ (flags (file x)) w.is_instance

start_there : (flags : Methods) (class : Family) → AreThere flags (IsOfStart flags class)
start_there flags class x w =
    without_there _ (flags (file x)) (and_parts (is_instance (flags (file x))) (not (is_interface (file class)) || is_interface (file x) || is_public (flags (file x))) w).0

pub virtual_law : (method : MethodAt) (resolved : Named) (set : ℕ) (class : Family) → named method ≡ Some resolved → IsWhole class → IsKnown resolved.holder class
    → Answered resolved.name resolved.desc (class_of set class)
    (Selects (flags_at resolved.name resolved.desc) (IsOverriding (flags_at resolved.name resolved.desc) resolved.holder) (not_abstract (flags_at resolved.name resolved.desc)) class)
    (virtual_selection (class_of set class) method)
unfolding virtual_selection
virtual_law method resolved set class n whole known =
    let flags = flags_at resolved.name resolved.desc in
    let m = virtual_means flags resolved.holder set class whole known in
    let Means = Selects flags (IsOverriding flags resolved.holder) (not_abstract flags) class in
    let a = selects_answers flags (IsOverriding flags resolved.holder) (not_abstract flags) class (selected flags resolved.holder (class_of set class)) (overriding_there flags resolved.holder) (takes_not_abstract flags) m in
    subst (Answered resolved.name resolved.desc (class_of set class) Means)
    (sym (ap (selection (class_of set class) (λ holder flags. selected flags holder (class_of set class))) n))
    (answered resolved.name resolved.desc set class whole Means (selected flags resolved.holder (class_of set class)) m a Abstract)

pub interface_law : (method : MethodAt) (resolved : Named) (set : ℕ) (class : Family) → named method ≡ Some resolved → IsWhole class
    → Answered resolved.name resolved.desc (class_of set class)
    (Selects (flags_at resolved.name resolved.desc) (IsInstance (flags_at resolved.name resolved.desc)) (public_not_abstract (flags_at resolved.name resolved.desc)) class)
    (interface_selection (class_of set class) method)
unfolding interface_selection
interface_law method resolved set class n whole =
    let flags = flags_at resolved.name resolved.desc in
    let m = interface_means flags set class whole in
    let Means = Selects flags (IsInstance flags) (public_not_abstract flags) class in
    let a = selects_answers flags (IsInstance flags) (public_not_abstract flags) class (interface_selected flags (class_of set class)) (instances_there flags) (takes_public flags) m in
    subst (Answered resolved.name resolved.desc (class_of set class) Means)
    (sym (ap (selection (class_of set class) (λ holder flags. interface_selected flags (class_of set class))) n))
    (answered resolved.name resolved.desc set class whole Means (interface_selected flags (class_of set class)) m a Abstract)

pub special_law : (method : MethodAt) (resolved : Named) (set : ℕ) (class : Family) → named method ≡ Some resolved → IsWhole class
    → Answered resolved.name resolved.desc (class_of set class)
    (Selects (flags_at resolved.name resolved.desc) (IsOfStart (flags_at resolved.name resolved.desc) class) (not_abstract (flags_at resolved.name resolved.desc)) class)
    (special_selection (class_of set class) method)
unfolding special_selection
special_law method resolved set class n whole =
    let flags = flags_at resolved.name resolved.desc in
    let m = special_means flags set class whole in
    let Means = Selects flags (IsOfStart flags class) (not_abstract flags) class in
    let a = selects_answers flags (IsOfStart flags class) (not_abstract flags) class (selected_from flags (class_of set class)) (start_there flags class) (takes_not_abstract flags) m in
    subst (Answered resolved.name resolved.desc (class_of set class) Means)
    (sym (ap (selection (class_of set class) (λ holder flags. selected_from flags (class_of set class))) n))
    (answered resolved.name resolved.desc set class whole Means (selected_from flags (class_of set class)) m a Abstract)

-- ---- resolution

resolves_answers : (flags : Methods) (Wanted : Family → Type 0) (class : Family) (answer : Result Parts LinkFault) → AreThere flags Wanted → Resolves flags Wanted class answer → Answers flags class answer
resolves_answers flags Wanted class answer there (in_line x f e) = subst (Answers flags class) (sym e) (x, first_stands class x f, refl, there x f.is_wanted)
resolves_answers flags Wanted class answer there (by_rule taken n r e) = subst (Answers flags class) (sym e) (ruled_answers flags class (Ok taken) r)
resolves_answers flags Wanted (family p u c) answer there (declared_first fault x n r f e) =
    let i = supers_inherit p u c x (subst (λ (zs : List Family). In zs x) (sym f.splits) (in_middle f.before f.behind x)) in
    subst (Answers flags (family p u c)) (sym e) (x, inherits_stands i, refl, declared_there flags (file x) f.is_wanted)
resolves_answers flags Wanted class answer there (nowhere fault n r f e) = subst (Answers flags class) (sym e) tt

abbrev test : Methods → Own → Bool
test flags own = declares flags own.file

by_declared : (flags : Methods) (Wanted : Family → Type 0) (class : Family) (fault : LinkFault) → IsNone Wanted (line class) → IsRuled flags class (Err fault) → (found : Option Own)
    → Nearest (λ x. test flags (own_walk x) ≡ true) (supers (walk class)) found → Resolves flags Wanted class (or_no_method found)
unfolding own_walk
by_declared flags Wanted class fault n r found (found_one x f e) = declared_first fault x n r f (ap or_no_method e)
by_declared flags Wanted class fault n r found (found_none m e) = nowhere fault n r m (ap or_no_method e)

by_superinterfaces : (flags : Methods) (Wanted : Family → Type 0) (p : Parts) (u c : Families) → IsNone Wanted (line (family p u c)) → (r : Result Parts LinkFault) → IsRuled flags (family p u c) r
    → Resolves flags Wanted (family p u c) (or_first_declared flags (supers (map own_walk (walk (family p u c)))) r)
unfolding walk visited
by_superinterfaces flags Wanted p u c n (Ok taken) r = by_rule taken n r refl
by_superinterfaces flags Wanted p u c n (Err fault) r =
    by_declared flags Wanted (family p u c) fault n r (find (test flags) (map own_walk (supers (walk (family p u c))))) (nearest_by (test flags) (supers (walk (family p u c))))

resolves : (flags : Methods) (Wanted : Family → Type 0) (set : ℕ) (class : Family) → IsWhole class → (found : Option Own) → Nearest Wanted (line class) found
    → Resolves flags Wanted class (or_of_superinterfaces flags (class_of set class).walk found)
unfolding own_walk class_of of_superinterfaces
resolves flags Wanted set class whole found (found_one x f e) = in_line x f (ap (or_of_superinterfaces flags (class_of set class).walk) e)
resolves flags Wanted set (family p u c) whole found (found_none n e) =
    subst (Resolves flags Wanted (family p u c)) (sym (ap (or_of_superinterfaces flags (class_of set (family p u c)).walk) e))
    (by_superinterfaces flags Wanted p u c n (ruled flags (class_of set (family p u c)).walk) (ruled_law flags set (family p u c) whole))

if_false : {A : Type 0} (b : Bool) (x y : A) → b ≡ false → cond b x y ≡ y
if_false b x y e = ap (λ (b : Bool). cond b x y) e

if_true : {A : Type 0} (b : Bool) (x y : A) → b ≡ true → cond b x y ≡ x
if_true b x y e = ap (λ (b : Bool). cond b x y) e

class_means : (flags : Methods) (set : ℕ) (class : Family) → IsWhole class → is_interface (file class) ≡ false → Resolves flags (IsThere flags) class (resolved flags (class_of set class))
unfolding resolved class_of own_walk
class_means flags set class whole e =
    subst (Resolves flags (IsThere flags) class)
    (sym (if_false (is_interface (file class)) _ (or_of_superinterfaces flags (map own_walk (walk class)) (find (λ (own : Own). is_there (flags own.file)) (map own_walk (line class)))) e))
    (resolves flags (IsThere flags) set class whole (find (λ (own : Own). is_there (flags own.file)) (map own_walk (line class))) (nearest_by (λ (own : Own). is_there (flags own.file)) (line class)))

interface_method_means : (flags : Methods) (set : ℕ) (class : Family) → IsWhole class → is_interface (file class) ≡ true
    → Resolves flags (IsOfInterface flags) class (interface_resolved flags (class_of set class))
unfolding interface_resolved class_of own_walk
interface_method_means flags set class whole e =
    subst (Resolves flags (IsOfInterface flags) class)
    (sym (if_true (is_interface (file class)) (or_of_superinterfaces flags (map own_walk (walk class)) (find (is_of_interface flags) (map own_walk (line class)))) _ e))
    (resolves flags (IsOfInterface flags) set class whole (find (is_of_interface flags) (map own_walk (line class))) (nearest_by (is_of_interface flags) (line class)))

of_interface_there : (flags : Methods) → AreThere flags (IsOfInterface flags)
of_interface_there flags x w = (and_parts (is_there (flags (file x))) (is_interface (file x) || (is_public (flags (file x)) && is_instance (flags (file x)))) w).0

pub method_law : (name desc : List ℕ) (set : ℕ) (class : Family) → IsWhole class → is_interface (file class) ≡ false
    → Answered name desc (class_of set class) (Resolves (flags_at name desc) (IsThere (flags_at name desc)) class) (method_found name desc (class_of set class))
unfolding method_found
method_law name desc set class whole e =
    let flags = flags_at name desc in
    let m = class_means flags set class whole e in
    answered name desc set class whole (Resolves flags (IsThere flags) class) (resolved flags (class_of set class)) m
    (resolves_answers flags (IsThere flags) class (resolved flags (class_of set class)) (λ x w. w) m) NoMethod

pub interface_method_law : (name desc : List ℕ) (set : ℕ) (class : Family) → IsWhole class → is_interface (file class) ≡ true
    → Answered name desc (class_of set class) (Resolves (flags_at name desc) (IsOfInterface (flags_at name desc)) class) (interface_method_found name desc (class_of set class))
unfolding interface_method_found
interface_method_law name desc set class whole e =
    let flags = flags_at name desc in
    let m = interface_method_means flags set class whole e in
    answered name desc set class whole (Resolves flags (IsOfInterface flags) class) (interface_resolved flags (class_of set class)) m
    (resolves_answers flags (IsOfInterface flags) class (interface_resolved flags (class_of set class)) (of_interface_there flags) m) NoMethod
