-- How many words texts want: what is known of texts decides it, and one text more.
use Rattle.std.proofs.Common.{◌≡◌, ◌<◌, ℕ, zero, suc, ◌+◌, ◌-◌, ◌^◌, min, Bool, true, false, cond, not, ◌||◌, List, [], ◌∷◌, length, drop, get_or, is_some, IfSome, Option, Some, None, refl, sym, ap, ◌∙◌, subst, arith, All}
use Rattle.std.specs.Prelude.{◌≤◌, if◌then◌else◌}
use Rattle.std.specs.Map.{update}
use Rattle.std.specs.Str.{bytes_eq}
use Rattle.std.specs.BTreeMap as tree
use Rattle.std.specs.BTreeMap.{BTreeMap}
use Rattle.std.specs.Cmp.Lexicographic.{slice_cmp}
use Rattle.std.specs.Ordering.{nat_cmp}
use denote.Ref.{Bor}
use Rattle.std.proofs.lemmas.List.{at_drop_more, drop_all}
use Rattle.std.proofs.lemmas.List.Elements.{All-cons, All-head, All-tail}
use Rattle.std.proofs.lemmas.Slice.Eq.{bytes_eq-Decides}
use Rattle.mvm_heap.specs.Heap.{interned, words_of}
use Rattle.mvm_heap.specs.Heap as heap
use Rattle.mvm_heap.specs.Objects.{State}
use Rattle.mvm_layout.specs.declared.parts.Item.{Item}
use Rattle.mvm_layout.specs.declared.parts.Member.{Member}
use Rattle.mvm_initialise.specs.Constants.{constant_text, constant_texts, in_front, is_interned, is_known, is_met, words_wanted, Counted, IsShort, IsThere, MOST}

-- ---- only what is known of the texts themselves decides

same_or : (units other : List ℕ) (f g : List ℕ → Bool) → f other ≡ g other → (bytes_eq units other || f other) ≡ (bytes_eq units other || g other)
same_or units other f g e = ap (λ (b : Bool). bytes_eq units other || b) e

wanted_by : (units : List ℕ) (others : List (List ℕ)) (f g : List ℕ → Bool) (b : Bool) → f units ≡ b → f units ≡ g units
    → words_wanted f others ≡ words_wanted g others
    → words_wanted (λ other. bytes_eq units other || f other) others ≡ words_wanted (λ other. bytes_eq units other || g other) others
    → words_wanted f (units ∷ others) ≡ words_wanted g (units ∷ others)
unfolding words_wanted
wanted_by units others f g true e same rest next = let h : g units ≡ true = sym same ∙ e in rw (e, h) rest
wanted_by units others f g false e same rest next = let h : g units ≡ false = sym same ∙ e in rw (e, h) (ap (λ (n : ℕ). words_of (heap.text units) + n) next)

pub same_wanted : (texts : List (List ℕ)) (f g : List ℕ → Bool) → All (λ (units : List ℕ). f units ≡ g units) texts → words_wanted f texts ≡ words_wanted g texts
unfolding words_wanted
same_wanted [] f g all = refl
same_wanted (units ∷ others) f g all =
    let first : f units ≡ g units = All-head (λ (x : List ℕ). f x ≡ g x) units others all in
    let rest : All (λ (x : List ℕ). f x ≡ g x) others = All-tail (λ (x : List ℕ). f x ≡ g x) units others all in
    wanted_by units others f g (f units) refl first
    (same_wanted others f g rest)
    (same_wanted others (λ other. bytes_eq units other || f other) (λ other. bytes_eq units other || g other) (λ k d h. same_or units (get_or others k d) f g (rest k d h)))

pub alike_wanted : (texts : List (List ℕ)) (f g : List ℕ → Bool) → ((units : List ℕ) → f units ≡ g units) → words_wanted f texts ≡ words_wanted g texts
alike_wanted texts f g all = same_wanted texts f g (λ k d h. all (get_or texts k d))

-- ---- one text more

-- equal units are known alike
known_equal : (f : List ℕ → Bool) (units other : List ℕ) (b : Bool) → bytes_eq units other ≡ b → f units ≡ true → f other ≡ (b || f other)
known_equal f units other true e k = let same : units ≡ other = (bytes_eq-Decides units other).0 e in rw (← same) k
known_equal f units other false e k = refl

wanted_step : (f g : List ℕ → Bool) (units : List ℕ) (others : List (List ℕ)) (b : Bool) → f units ≡ b → ((other : List ℕ) → g other ≡ (bytes_eq units other || f other))
    → words_wanted f (units ∷ others) ≡ (if b then 0 else words_of (heap.text units)) + words_wanted g others
unfolding words_wanted
wanted_step f g units others true e next =
    let same : words_wanted f others ≡ words_wanted g others = alike_wanted others f g (λ other. known_equal f units other (bytes_eq units other) refl e ∙ sym (next other)) in
    rw e (omega (arith, same))
wanted_step f g units others false e next =
    let same : words_wanted g others ≡ words_wanted (λ other. bytes_eq units other || f other) others = alike_wanted others g (λ other. bytes_eq units other || f other) next in
    rw (e, same) refl

pub counted : (s : State) (f g : List ℕ → Bool) (units : List ℕ) (before after : ℕ) (b : Bool) → before < 2 ^ 64 → f units ≡ b → ((other : List ℕ) → g other ≡ (bytes_eq units other || f other))
    → after ≡ (if b then before else min (before + words_of (heap.text units)) MOST) → IsShort units → IsThere s units → Counted s f g before after (Some units)
counted s f g units before after true few e next is short there = record {
  few = omega (arith, few, is);
  sum = λ others. (let step : words_wanted f (units ∷ others) ≡ 0 + words_wanted g others = wanted_step f g units others true e next in omega (arith, step, is));
  short = short;
  there = there;
}
counted s f g units before after false few e next is short there = record {
  few = omega (arith, few, is);
  sum = λ others. (let step : words_wanted f (units ∷ others) ≡ words_of (heap.text units) + words_wanted g others = wanted_step f g units others false e next in omega (arith, step, is));
  short = short;
  there = there;
}

pub counted_known : (s : State) (f : List ℕ → Bool) (units : List ℕ) (before : ℕ) → before < 2 ^ 64 → f units ≡ true → IsShort units → IsThere s units → Counted s f f before before (Some units)
counted_known s f units before few e short there = counted s f f units before before true few e (λ other. known_equal f units other (bytes_eq units other) refl e) refl short there

pub not_counted : (s : State) (f : List ℕ → Bool) (before : ℕ) → before < 2 ^ 64 → Counted s f f before before None
not_counted s f before few = record { few = few; sum = λ others. refl; short = tt; there = tt }

-- ---- the texts that were met

pub met_known : {X : Type 0} (f : List ℕ → Option X) (units : List ℕ) → is_some (f units) ≡ true → (other : List ℕ) → is_some (f other) ≡ (bytes_eq units other || is_some (f other))
met_known f units e other = known_equal (λ (x : List ℕ). is_some (f x)) units other (bytes_eq units other) refl e

met_by : {X : Type 0} (f : List ℕ → Option X) (units other : List ℕ) (x : X) (b : Bool) → is_some (cond b (Some x) (f other)) ≡ (b || is_some (f other))
met_by f units other x true = refl
met_by f units other x false = refl

pub met_new : {X : Type 0} (f g : List ℕ → Option X) (units : List ℕ) (x : X) → ((other : List ℕ) → g other ≡ update bytes_eq f units (Some x) other)
    → (other : List ℕ) → is_some (g other) ≡ (bytes_eq units other || is_some (f other))
met_new f g units x e other = ap is_some (e other) ∙ met_by f units other x (bytes_eq units other)

or_group : (a b c : Bool) → ((a || b) || c) ≡ (a || (b || c))
or_group true b c = refl
or_group false b c = refl

pub known_next : (s : State) (f g : List ℕ → Bool) (units : List ℕ) → ((other : List ℕ) → g other ≡ (bytes_eq units other || f other))
    → (other : List ℕ) → (g other || is_interned s other) ≡ (bytes_eq units other || (f other || is_interned s other))
known_next s f g units e other = ap (λ (b : Bool). b || is_interned s other) (e other) ∙ or_group (bytes_eq units other) (f other) (is_interned s other)

-- ---- by the answers of calls

abbrev pub look : BTreeMap (Bor (List ℕ)) (Unit {0}) → List ℕ → Option (Unit {0})
look met units = tree.get_by (λ key. slice_cmp nat_cmp units key.now) met

or_true : (b : Bool) → (b || true) ≡ true
or_true true = refl
or_true false = refl

pub there_some : (s : State) (units : List ℕ) (n : ℕ) → Some n ≡ interned s.objects s.texts units → n < length s.objects → IsThere s units
there_some s units n e h = subst (λ (r : Option ℕ). IfSome r (λ k. k < length s.objects)) e h

pub there_none : (s : State) (units : List ℕ) → None ≡ interned s.objects s.texts units → IsThere s units
there_none s units e = subst (λ (r : Option ℕ). IfSome r (λ k. k < length s.objects)) e tt

-- a text that is interned
pub interned_counted : (s : State) (met : BTreeMap (Bor (List ℕ)) (Unit {0})) (units : List ℕ) (before n : ℕ) → before < 2 ^ 64 → Some n ≡ interned s.objects s.texts units → n < length s.objects → IsShort units
    → Counted s (is_known met s) (is_known met s) before before (Some units)
interned_counted s met units before n few e h short =
    let is : is_interned s units ≡ true = ap is_some (sym e) in
    let known : is_known met s units ≡ true = rw is (or_true (is_met met units)) in
    counted_known s (is_known met s) units before few known short (there_some s units n e h)

not_fresh : (b : Bool) → true ≡ not b → b ≡ false
not_fresh true e = absurd cc
not_fresh false e = refl

not_known : (b : Bool) → false ≡ not b → b ≡ true
not_known true e = refl
not_known false e = absurd cc

-- a text that is not interned, and was met or was not
pub met_counted : (s : State) (met new : BTreeMap (Bor (List ℕ)) (Unit {0})) (units : List ℕ) (before after : ℕ) (fresh : Bool) → before < 2 ^ 64 → fresh ≡ not (is_met met units) → None ≡ interned s.objects s.texts units
    → ((other : List ℕ) → is_met new other ≡ (bytes_eq units other || is_met met other)) → after ≡ (if fresh then min (before + words_of (heap.text units)) MOST else before) → IsShort units
    → Counted s (is_known met s) (is_known new s) before after (Some units)
met_counted s met new units before after true few f e next is short =
    let a : is_met met units ≡ false = not_fresh (is_met met units) f in
    let b : is_interned s units ≡ false = ap is_some (sym e) in
    let known : is_known met s units ≡ false = rw (a, b) refl in
    counted s (is_known met s) (is_known new s) units before after false few known (known_next s (is_met met) (is_met new) units next) is short (there_none s units e)
met_counted s met new units before after false few f e next is short =
    let a : is_met met units ≡ true = not_known (is_met met units) f in
    let known : is_known met s units ≡ true = rw a refl in
    counted s (is_known met s) (is_known new s) units before after true few known (known_next s (is_met met) (is_met new) units next) is short (there_none s units e)

-- ---- a loop over fields

-- so far the words of the texts of the fields before were counted
pub record Counting (s : State) (known : List ℕ → Bool) (pool : List Item) (fields : List Member) (place so_far : ℕ) : Type 0 where
  pub few : so_far < 2 ^ 64
  pub sum : min (so_far + words_wanted known (constant_texts pool (drop place fields))) MOST ≡ min (words_wanted (is_interned s) (constant_texts pool fields)) MOST
  pub short : All IsShort (constant_texts pool (drop place fields)) → All IsShort (constant_texts pool fields)
  pub there : All (IsThere s) (constant_texts pool (drop place fields)) → All (IsThere s) (constant_texts pool fields)

pub counting_begins : (s : State) (met : BTreeMap (Bor (List ℕ)) (Unit {0})) (pool : List Item) (fields : List Member) → met.entries ≡ [] → Counting s (is_known met s) pool fields 0 0
counting_begins s met pool fields e =
    let none : (units : List ℕ) → is_known met s units ≡ is_interned s units = λ units. rw e refl in
    let same : words_wanted (is_known met s) (constant_texts pool fields) ≡ words_wanted (is_interned s) (constant_texts pool fields) = alike_wanted (constant_texts pool fields) (is_known met s) (is_interned s) none in
    record { few = omega arith; sum = omega (arith, same); short = λ all. all; there = λ all. all }

front_all : (P : List ℕ → Type 0) (found : Option (List ℕ)) (others : List (List ℕ)) → IfSome found P → All P others → All P (in_front found others)
front_all P (Some units) others here all = All-cons P units others here all
front_all P None others here all = all

pub texts_step : (pool : List Item) (fields : List Member) (place : ℕ) (field : Member) → place < length fields → field ≡ get_or fields place field
    → constant_texts pool (drop place fields) ≡ in_front (constant_text pool field) (constant_texts pool (drop (place + 1) fields))
unfolding constant_texts
texts_step pool fields place field h e =
    at_drop_more (constant_texts pool) fields place field h
    ∙ ap (λ (x : Member). in_front (constant_text pool x) (constant_texts pool (drop (place + 1) fields))) (sym e)

pub counting_more : (s : State) (f g : List ℕ → Bool) (pool : List Item) (fields : List Member) (place before after : ℕ) (field : Member)
    → place < length fields → field ≡ get_or fields place field → Counted s f g before after (constant_text pool field) → Counting s f pool fields place before → Counting s g pool fields (place + 1) after
counting_more s f g pool fields place before after field h e c k =
    let found : Option (List ℕ) = constant_text pool field in
    let rest : List (List ℕ) = constant_texts pool (drop (place + 1) fields) in
    let step : constant_texts pool (drop place fields) ≡ in_front found rest = texts_step pool fields place field h e in
    record {
      few = c.few;
      sum = c.sum rest ∙ (ap (λ (texts : List (List ℕ)). min (before + words_wanted f texts) MOST) (sym step) ∙ k.sum);
      short = λ all. k.short (subst (All IsShort) (sym step) (front_all IsShort found rest c.short all));
      there = λ all. k.there (subst (All (IsThere s)) (sym step) (front_all (IsThere s) found rest c.there all));
    }

none_left : (pool : List Item) (fields : List Member) (place : ℕ) → length fields ≤ place → constant_texts pool (drop place fields) ≡ []
unfolding constant_texts
none_left pool fields place h = ap (constant_texts pool) (drop_all place fields h)

none_wanted : (known : List ℕ → Bool) → words_wanted known [] ≡ 0
unfolding words_wanted
none_wanted known = refl

no_text : (P : List ℕ → Type 0) (texts : List (List ℕ)) → texts ≡ [] → All P texts
no_text P texts e = subst (All P) (sym e) (λ k d h. absurd (omega (arith, h)))

pub counting_sum : (s : State) (known : List ℕ → Bool) (pool : List Item) (fields : List Member) (place sum : ℕ) → length fields ≤ place → Counting s known pool fields place sum
    → sum ≡ min (words_wanted (is_interned s) (constant_texts pool fields)) MOST
counting_sum s known pool fields place sum h k =
    let none : words_wanted known (constant_texts pool (drop place fields)) ≡ 0 = ap (words_wanted known) (none_left pool fields place h) ∙ none_wanted known in
    let is : min (sum + words_wanted known (constant_texts pool (drop place fields))) MOST ≡ min (words_wanted (is_interned s) (constant_texts pool fields)) MOST = k.sum in
    omega (arith, none, is, k.few)

pub counting_short : (s : State) (known : List ℕ → Bool) (pool : List Item) (fields : List Member) (place sum : ℕ) → length fields ≤ place → Counting s known pool fields place sum → All IsShort (constant_texts pool fields)
counting_short s known pool fields place sum h k = k.short (no_text IsShort _ (none_left pool fields place h))

pub counting_there : (s : State) (known : List ℕ → Bool) (pool : List Item) (fields : List Member) (place sum : ℕ) → length fields ≤ place → Counting s known pool fields place sum → All (IsThere s) (constant_texts pool fields)
counting_there s known pool fields place sum h k = k.there (no_text (IsThere s) _ (none_left pool fields place h))
