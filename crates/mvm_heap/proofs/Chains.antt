-- The chains of interned texts: what a search along a chain finds, and one text more.
use Rattle.std.proofs.Common.{◌≡◌, ◌≢◌, ℕ, zero, suc, ◌+◌, ◌%◌, ◌<◌, ◌≤◌, List, [], ◌∷◌, ◌++◌, length, get_or, set, Bool, true, false, ◌⊎◌, Some, None, inl, inr, refl, ap, sym, subst, ◌∙◌, arith, get_or-set_other, get_or-set_same}
use Rattle.std.specs.Str.{bytes_eq}
use Rattle.std.proofs.lemmas.Slice.Eq.{bytes_eq-Decides}
use Rattle.std.proofs.lemmas.Bool.Decides.{eqb_tells}
use Rattle.std.proofs.lemmas.List.{length_push, length-set, length-map, get_or_append_left, get_or_at, map_push}
use Rattle.mvm_heap.specs.declared.index.Entry.{Entry}
use Rattle.mvm_heap.specs.declared.kind.ObjectKind.TheVariants.{Text}
use Rattle.mvm_heap.specs.Objects.{Object}
use Rattle.mvm_heap.specs.Heap.{object_at, nothing, interned, text, put, written}
use Rattle.mvm_heap.specs.Index.{hashed, entry_at, no_entry, units_at, bucket_at, numbers, IsLast, IsIndexed}

-- ---- a search along a chain

lt_tells : (k q : ℕ) → (k < q) ⊎ (q ≤ k)
lt_tells zero zero = inr (omega arith)
lt_tells zero (suc q) = inl (omega arith)
lt_tells (suc k) zero = inr (omega arith)
lt_tells (suc k) (suc q) = elim (lt_tells k q) as (λ t. (suc k < suc q) ⊎ (suc q ≤ suc k)) [ inl t ↦ inl (omega (arith, t)) | inr t ↦ inr (omega (arith, t)) ]

-- no text from this place on has these units, and the place before it is of their bucket
pub record Searched (os : List Object) (es : List Entry) (buckets : ℕ) (us : List ℕ) (place : ℕ) : Type 0 where
  pub within : place ≤ length es
  pub bucket : (q : ℕ) → place ≡ suc q → bucket_at os es buckets q ≡ hashed us % buckets
  pub none : (k : ℕ) → place ≤ k → k < length es → units_at os es k ≢ us

same_bucket : (os : List Object) (es : List Entry) (buckets k : ℕ) (us : List ℕ) → units_at os es k ≡ us → bucket_at os es buckets k ≡ hashed us % buckets
unfolding bucket_at
same_bucket os es buckets k us e = ap (λ (xs : List ℕ). hashed xs % buckets) e

pub search_begins : (os : List Object) (es : List Entry) (hs us : List ℕ) → IsIndexed os es hs → hashed us % length hs < length hs → Searched os es (length hs) us (get_or hs (hashed us % length hs) 0)
search_begins os es hs us i h =
    let l : IsLast (bucket_at os es (length hs)) (length es) (hashed us % length hs) (get_or hs (hashed us % length hs) 0) = i.heads (hashed us % length hs) h in
    record {
      within = l.within;
      bucket = l.same;
      none = λ k a b e. l.none k a b (same_bucket os es (length hs) k us e);
    }

pub search_goes : (os : List Object) (es : List Entry) (hs us : List ℕ) (q : ℕ) → IsIndexed os es hs → Searched os es (length hs) us (suc q) → units_at os es q ≢ us → Searched os es (length hs) us (entry_at es q).before
search_goes os es hs us q i s d =
    let h : q < length es = omega (arith, s.within) in
    let b : bucket_at os es (length hs) q ≡ hashed us % length hs = s.bucket q refl in
    let l : IsLast (bucket_at os es (length hs)) q (bucket_at os es (length hs) q) (entry_at es q).before = i.before q h in
    record {
      within = omega (arith, l.within, h);
      bucket = λ r e. l.same r e ∙ b;
      none = λ k lo hi e. elim (lt_tells k q) as (λ t. ⊥) [
        | inl t ↦ l.none k lo t (same_bucket os es (length hs) k us e ∙ sym b)
        | inr t ↦ elim (eqb_tells k q) as (λ z. ⊥) [
          | inl z ↦ d (subst (λ (x : ℕ). units_at os es x ≡ us) z.1 e)
          | inr z ↦ s.none k (omega (arith, t, z.1)) hi e
        ]
      ];
    }

-- ---- what was found

different : (x y : List ℕ) → (x ≡ y → ⊥) → bytes_eq x y ≡ false
different x y h =
    let P : Bool → Type 0 = λ b. bytes_eq x y ≡ b → b ≡ false in
    elim (bytes_eq x y) as P [ true ↦ λ e. absurd (h ((bytes_eq-Decides x y).0 e)) | false ↦ λ e. refl ] refl

pub found_none : (os : List Object) (es : List Entry) (us : List ℕ) → ((k : ℕ) → k < length es → units_at os es k ≢ us) → interned os (numbers es) us ≡ None
unfolding interned numbers
found_none os [] us h = refl
found_none os (e ∷ es) us h = rw (found_none os es us (λ k l. h (suc k) (omega (arith, l))), different (object_at os e.number).contents us (h 0 (omega arith))) refl

pub found_some : (os : List Object) (es : List Entry) (us : List ℕ) (q : ℕ) → q < length es → units_at os es q ≡ us → ((k : ℕ) → suc q ≤ k → k < length es → units_at os es k ≢ us) → interned os (numbers es) us ≡ Some (entry_at es q).number
unfolding interned numbers
found_some os [] us q l u h = absurd (omega (arith, l))
found_some os (e ∷ es) us zero l u h =
    rw (found_none os es us (λ k m. h (suc k) (omega arith) (omega (arith, m))), (bytes_eq-Decides (object_at os e.number).contents us).1 u) refl
found_some os (e ∷ es) us (suc q) l u h = rw (found_some os es us q (omega (arith, l)) u (λ k a m. h (suc k) (omega (arith, a)) (omega (arith, m)))) refl

-- ---- other objects change

same_units : (os os' : List Object) (es : List Entry) (hs : List ℕ) → IsIndexed os es hs → ((n : ℕ) → n < length os → (object_at os n).sort ≡ Text → object_at os' n ≡ object_at os n)
    → (k : ℕ) → k < length es → bucket_at os' es (length hs) k ≡ bucket_at os es (length hs) k
unfolding bucket_at
same_units os os' es hs i h k l = ap (λ (o : Object). hashed o.contents % length hs) (h (entry_at es k).number (i.there k l) (i.texts k l))

last_same : (f g : ℕ → ℕ) (n b p : ℕ) → ((k : ℕ) → k < n → g k ≡ f k) → IsLast f n b p → IsLast g n b p
last_same f g n b p h l = record {
  within = l.within;
  same = λ q e. h q (omega (arith, e, l.within)) ∙ l.same q e;
  none = λ k a m e. l.none k a m (sym (h k m) ∙ e);
}

-- the texts are as before, and there are no fewer objects
pub indexed_same : (os os' : List Object) (es : List Entry) (hs : List ℕ) → IsIndexed os es hs → length os ≤ length os' → ((n : ℕ) → n < length os → (object_at os n).sort ≡ Text → object_at os' n ≡ object_at os n) → IsIndexed os' es hs
indexed_same os os' es hs i m h = record {
  there = λ k l. omega (arith, i.there k l, m);
  texts = λ k l. ap (λ (o : Object). o.sort) (h (entry_at es k).number (i.there k l) (i.texts k l)) ∙ i.texts k l;
  before = λ k l.
      subst (λ (b : ℕ). IsLast (bucket_at os' es (length hs)) k b (entry_at es k).before) (sym (same_units os os' es hs i h k l))
      (last_same (bucket_at os es (length hs)) (bucket_at os' es (length hs)) k _ _ (λ j n. same_units os os' es hs i h j (omega (arith, n, l))) (i.before k l));
  heads = λ b l. last_same (bucket_at os es (length hs)) (bucket_at os' es (length hs)) (length es) b _ (same_units os os' es hs i h) (i.heads b l);
  some = i.some;
  few = omega (arith, i.few, m);
}

-- ---- one text more

record Parts (os : List Object) (es : List Entry) (hs : List ℕ) (buckets : ℕ) : Type 0 where
  pub there : (k : ℕ) → k < length es → (entry_at es k).number < length os
  pub texts : (k : ℕ) → k < length es → (object_at os (entry_at es k).number).sort ≡ Text
  pub before : (k : ℕ) → k < length es → IsLast (bucket_at os es buckets) k (bucket_at os es buckets k) (entry_at es k).before
  pub heads : (b : ℕ) → b < buckets → IsLast (bucket_at os es buckets) (length es) b (get_or hs b 0)
  pub some : 0 < buckets
  pub few : length es ≤ length os

indexed_from : (os : List Object) (es : List Entry) (hs : List ℕ) (buckets : ℕ) → length hs ≡ buckets → Parts os es hs buckets → IsIndexed os es hs
indexed_from os es hs buckets e p =
    let q : Parts os es hs (length hs) = subst (λ (n : ℕ). Parts os es hs n) (sym e) p in
    record { there = q.there; texts = q.texts; before = q.before; heads = q.heads; some = q.some; few = q.few }

entry_old : (es : List Entry) (e : Entry) (k : ℕ) → k < length es → entry_at (es ++ e ∷ []) k ≡ entry_at es k
entry_old es e k h = get_or_append_left es (e ∷ []) no_entry k h

entry_new : (es : List Entry) (e : Entry) → entry_at (es ++ e ∷ []) (length es) ≡ e
entry_new es e = get_or_at es e [] no_entry (length es) refl

bucket_old : (os : List Object) (es : List Entry) (e : Entry) (buckets k : ℕ) → k < length es → bucket_at os (es ++ e ∷ []) buckets k ≡ bucket_at os es buckets k
unfolding bucket_at
bucket_old os es e buckets k h = ap (λ (x : Entry). hashed (object_at os x.number).contents % buckets) (entry_old es e k h)

bucket_new : (os : List Object) (es : List Entry) (e : Entry) (us : List ℕ) (buckets : ℕ) → object_at os e.number ≡ text us → bucket_at os (es ++ e ∷ []) buckets (length es) ≡ hashed us % buckets
unfolding bucket_at
bucket_new os es e us buckets o = ap (λ (x : Entry). hashed (object_at os x.number).contents % buckets) (entry_new es e) ∙ ap (λ (x : Object). hashed x.contents % buckets) o

-- what was the last of a bucket before the new entry
last_old : (os : List Object) (es : List Entry) (e : Entry) (buckets n b p : ℕ) → n ≤ length es → IsLast (bucket_at os es buckets) n b p → IsLast (bucket_at os (es ++ e ∷ []) buckets) n b p
last_old os es e buckets n b p h l = last_same (bucket_at os es buckets) (bucket_at os (es ++ e ∷ []) buckets) n b p (λ k m. bucket_old os es e buckets k (omega (arith, m, h))) l

-- the new entry is the last of its bucket
last_new : (f : ℕ → ℕ) (n b : ℕ) → f n ≡ b → IsLast f (n + 1) b (n + 1)
last_new f n b e = record {
  within = omega arith;
  same = λ q h. let k : q ≡ n = omega (arith, h) in ap f k ∙ e;
  none = λ k lo hi x. omega (arith, lo, hi);
}

-- and of no other
last_other : (f : ℕ → ℕ) (n b c p : ℕ) → f n ≡ b → c ≢ b → IsLast f n c p → IsLast f (n + 1) c p
last_other f n b c p e d l = record {
  within = omega (arith, l.within);
  same = l.same;
  none = λ k lo hi x. elim (lt_tells k n) as (λ t. ⊥) [
    | inl t ↦ l.none k lo t x
    | inr t ↦ let z : k ≡ n = omega (arith, t, hi) in d (sym x ∙ ap f z ∙ e)
  ];
}

more_texts : (os : List Object) (es : List Entry) (hs us : List ℕ) (e : Entry) → IsIndexed os es hs → object_at os e.number ≡ text us
    → (k : ℕ) → k < length (es ++ e ∷ []) → (object_at os (entry_at (es ++ e ∷ []) k).number).sort ≡ Text
more_texts os es hs us e i o k h = elim (lt_tells k (length es)) as (λ t. (object_at os (entry_at (es ++ e ∷ []) k).number).sort ≡ Text) [
  | inl t ↦ ap (λ (x : Entry). (object_at os x.number).sort) (entry_old es e k t) ∙ i.texts k t
  | inr t ↦
      let z : k ≡ length es = omega (arith, t, h, length_push es e) in
      ap (λ (m : ℕ). (object_at os (entry_at (es ++ e ∷ []) m).number).sort) z ∙ ap (λ (x : Entry). (object_at os x.number).sort) (entry_new es e) ∙ ap (λ (x : Object). x.sort) o
]

more_there : (os : List Object) (es : List Entry) (hs : List ℕ) (e : Entry) → IsIndexed os es hs → e.number < length os → (k : ℕ) → k < length (es ++ e ∷ []) → (entry_at (es ++ e ∷ []) k).number < length os
more_there os es hs e i f k h = elim (lt_tells k (length es)) as (λ t. (entry_at (es ++ e ∷ []) k).number < length os) [
  | inl t ↦ subst (λ (x : Entry). x.number < length os) (sym (entry_old es e k t)) (i.there k t)
  | inr t ↦
      let z : length es ≡ k = omega (arith, t, h, length_push es e) in
      subst (λ (m : ℕ). (entry_at (es ++ e ∷ []) m).number < length os) z (subst (λ (x : Entry). x.number < length os) (sym (entry_new es e)) f)
]

more_before : (os : List Object) (es : List Entry) (hs us : List ℕ) (e : Entry) (b : ℕ) → IsIndexed os es hs → object_at os e.number ≡ text us → b ≡ hashed us % length hs → b < length hs → e.before ≡ get_or hs b 0
    → (k : ℕ) → k < length (es ++ e ∷ []) → IsLast (bucket_at os (es ++ e ∷ []) (length hs)) k (bucket_at os (es ++ e ∷ []) (length hs) k) (entry_at (es ++ e ∷ []) k).before
more_before os es hs us e b i o h w p k l =
    let f : ℕ → ℕ = bucket_at os (es ++ e ∷ []) (length hs) in
    elim (lt_tells k (length es)) as (λ t. IsLast (bucket_at os (es ++ e ∷ []) (length hs)) k (bucket_at os (es ++ e ∷ []) (length hs) k) (entry_at (es ++ e ∷ []) k).before) [
      | inl t ↦
          subst (λ (x : ℕ). IsLast f k x (entry_at (es ++ e ∷ []) k).before) (sym (bucket_old os es e (length hs) k t))
          (subst (λ (y : Entry). IsLast f k (bucket_at os es (length hs) k) y.before) (sym (entry_old es e k t)) (last_old os es e (length hs) k _ _ (omega (arith, t)) (i.before k t)))
      | inr t ↦
          let z : length es ≡ k = omega (arith, t, l, length_push es e) in
          subst (λ (m : ℕ). IsLast f m (f m) (entry_at (es ++ e ∷ []) m).before) z
          (subst (λ (x : ℕ). IsLast f (length es) x (entry_at (es ++ e ∷ []) (length es)).before) (h ∙ sym (bucket_new os es e us (length hs) o))
          (subst (λ (y : Entry). IsLast f (length es) b y.before) (sym (entry_new es e))
          (subst (λ (x : ℕ). IsLast f (length es) b x) (sym p) (last_old os es e (length hs) (length es) b _ (omega arith) (i.heads b w)))))
    ]

more_heads : (os : List Object) (es : List Entry) (hs us : List ℕ) (e : Entry) (b : ℕ) → IsIndexed os es hs → object_at os e.number ≡ text us → b ≡ hashed us % length hs → b < length hs
    → (c : ℕ) → c < length hs → IsLast (bucket_at os (es ++ e ∷ []) (length hs)) (length es + 1) c (get_or (set hs b (length es + 1)) c 0)
more_heads os es hs us e b i o h w c l =
    let f : ℕ → ℕ = bucket_at os (es ++ e ∷ []) (length hs) in
    let g : f (length es) ≡ b = bucket_new os es e us (length hs) o ∙ sym h in
    elim (eqb_tells c b) as (λ t. IsLast (bucket_at os (es ++ e ∷ []) (length hs)) (length es + 1) c (get_or (set hs b (length es + 1)) c 0)) [
      | inl t ↦
          subst (λ (x : ℕ). IsLast f (length es + 1) x (get_or (set hs b (length es + 1)) x 0)) (sym t.1)
          (subst (λ (x : ℕ). IsLast f (length es + 1) b x) (sym (get_or-set_same hs b (length es + 1) 0 w)) (last_new f (length es) b g))
      | inr t ↦
          subst (λ (x : ℕ). IsLast f (length es + 1) c x) (sym (get_or-set_other hs b c (length es + 1) 0 t.1))
          (last_other f (length es) b c _ g t.1 (last_old os es e (length hs) (length es) c _ (omega arith) (i.heads c l)))
    ]

pub indexed_more : (os : List Object) (es : List Entry) (hs us : List ℕ) (e : Entry) (b : ℕ) → IsIndexed os es hs → object_at os e.number ≡ text us → e.number < length os → length es ≤ e.number
    → b ≡ hashed us % length hs → b < length hs → e.before ≡ get_or hs b 0 → IsIndexed os (es ++ e ∷ []) (set hs b (length es + 1))
indexed_more os es hs us e b i o t f h w p =
    indexed_from os (es ++ e ∷ []) (set hs b (length es + 1)) (length hs) (length-set hs b (length es + 1)) (record {
      there = more_there os es hs e i t;
      texts = more_texts os es hs us e i o;
      before = more_before os es hs us e b i o h w p;
      heads = λ c l. subst (λ (n : ℕ). IsLast (bucket_at os (es ++ e ∷ []) (length hs)) n c (get_or (set hs b (length es + 1)) c 0)) (sym (length_push es e)) (more_heads os es hs us e b i o h w c l);
      some = i.some;
      few = omega (arith, f, t, length_push es e);
    })

pub numbers_push : (es : List Entry) (e : Entry) → numbers (es ++ e ∷ []) ≡ numbers es ++ e.number ∷ []
unfolding numbers
numbers_push es e = map_push (λ (x : Entry). x.number) es e

-- ---- one object more, and a write

pub indexed_push : (os : List Object) (o : Object) (es : List Entry) (hs : List ℕ) → IsIndexed os es hs → IsIndexed (os ++ o ∷ []) es hs
indexed_push os o es hs i = indexed_same os (os ++ o ∷ []) es hs i (omega (arith, length_push os o)) (λ n h t. get_or_append_left os (o ∷ []) nothing n h)

pub indexed_set : (os : List Object) (n : ℕ) (o : Object) (es : List Entry) (hs : List ℕ) → IsIndexed os es hs → ((object_at os n).sort ≡ Text → ⊥) → IsIndexed (set os n o) es hs
indexed_set os n o es hs i d =
    indexed_same os (set os n o) es hs i (omega (arith, length-set os n o)) (λ m h t. get_or-set_other os n m o nothing (λ e. d (ap (λ (k : ℕ). (object_at os k).sort) (sym e) ∙ t)))

pub indexed_written : (os : List Object) (n place v : ℕ) (es : List Entry) (hs : List ℕ) → IsIndexed os es hs → ((object_at os n).sort ≡ Text → ⊥) → IsIndexed (written os n place v) es hs
unfolding written
indexed_written os n place v es hs i d = indexed_set os n (put (object_at os n) place v) es hs i d

pub numbers_count : (es : List Entry) → length (numbers es) ≡ length es
unfolding numbers
numbers_count es = length-map es (λ (x : Entry). x.number)
