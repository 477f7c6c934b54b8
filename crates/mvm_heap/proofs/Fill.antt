-- The units of a new text, one after another.
use Rattle.std.proofs.Common.{◌≡◌, ℕ, ◌+◌, ◌<◌, ◌≤◌, List, [], ◌∷◌, ◌++◌, length, get_or, set, replicate, refl, ap, sym, ◌∙◌, arith, get_or-set_other, get_or-set_same, below_more}
use Rattle.std.proofs.lemmas.List.{length-set, length-replicate, ext_get_or, set-get_or, set-set, get_or_at}
use Rattle.mvm_heap.specs.declared.kind.ObjectKind.TheVariants.{Text}
use Rattle.mvm_heap.specs.Objects.{Object, Stored}
use Rattle.mvm_region.specs.declared.monitor.Monitor.{Monitor}
use Rattle.mvm_heap.specs.Sorts.{kept}
use Rattle.mvm_heap.specs.Heap.{object_at, nothing, text, zeros, free, put, written}

-- the text has as many places as there are units, and so many of them are written
pub record Filled (os os' : List Object) (n : ℕ) (us : List ℕ) (i : ℕ) : Type 0 where
  pub cs : List ℕ
  pub objects : os' ≡ set os n (text cs)
  pub count : length cs ≡ length us
  pub units : (k : ℕ) → k < i → get_or cs k 0 ≡ get_or us k 0

pub fill_begins : (os : List Object) (n : ℕ) (us : List ℕ) → object_at os n ≡ zeros Text 0 (length us) → Filled os os n us 0
fill_begins os n us e = record {
  cs = replicate (length us) 0;
  objects = sym (set-get_or os n nothing) ∙ ap (λ (o : Object). set os n o) e;
  count = length-replicate {A = ℕ} (length us) 0;
  units = λ k h. absurd (omega (arith, h));
}

pub filled_text : (os os' : List Object) (n : ℕ) (us : List ℕ) (i : ℕ) → n < length os → (f : Filled os os' n us i) → object_at os' n ≡ text f.cs
filled_text os os' n us i h f = ap (λ (xs : List Object). object_at xs n) f.objects ∙ get_or-set_same os n (text f.cs) nothing h

pub filled_count : (os os' : List Object) (n : ℕ) (us : List ℕ) (i : ℕ) → n < length os → Filled os os' n us i → length (object_at os' n).contents ≡ length us
filled_count os os' n us i h f = ap (λ (o : Object). length o.contents) (filled_text os os' n us i h f) ∙ f.count

kept_unit : (u : ℕ) → u < 65536 → kept Text u ≡ u
unfolding kept
kept_unit u h = omega (arith, h)

pub fill_goes : (os os' : List Object) (n : ℕ) (us : List ℕ) (i u : ℕ) → n < length os → Filled os os' n us i → i < length us → u ≡ get_or us i 0 → u < 65536 → Filled os (written os' n i u) n us (i + 1)
unfolding written
fill_goes os os' n us i u h f l e b = record {
  cs = set f.cs i (kept Text u);
  objects =
      ap (λ (o : Object). set os' n (put o i u)) (filled_text os os' n us i h f)
      ∙ ap (λ (xs : List Object). set xs n (text (set f.cs i (kept Text u)))) f.objects
      ∙ set-set os n (text f.cs) (text (set f.cs i (kept Text u)));
  count = length-set f.cs i (kept Text u) ∙ f.count;
  units = below_more _ _ (λ k m. get_or-set_other f.cs i k (kept Text u) 0 (λ q. omega (arith, q, m)) ∙ f.units k m)
      (get_or-set_same f.cs i (kept Text u) 0 (omega (arith, l, f.count)) ∙ kept_unit u b ∙ e);
}

pub fill_ends : (os os' : List Object) (n : ℕ) (us : List ℕ) (i : ℕ) → length us ≤ i → Filled os os' n us i → os' ≡ set os n (text us)
fill_ends os os' n us i h f = f.objects ∙ ap (λ (xs : List ℕ). set os n (text xs)) (ext_get_or 0 f.cs us f.count (λ k l. f.units k (omega (arith, l, h, f.count))))

pub made : (s : Stored) (os : List Object) (ms : List Monitor) (n : ℕ) → s.objects ≡ os → s.monitors ≡ ms → s.size ≡ n → s ≡ record { objects = os; monitors = ms; size = n }
made s os ms n a b c = rw (← a, ← b, ← c) refl

set_last : (os : List Object) (o p : Object) → set (os ++ o ∷ []) (length os) p ≡ os ++ p ∷ []
set_last [] o p = refl
set_last (x ∷ os) o p = ap (λ (xs : List Object). x ∷ xs) (set_last os o p)

pub last_is : (os : List Object) (o : Object) → object_at (os ++ o ∷ []) (length os) ≡ o
last_is os o = get_or_at os o [] nothing (length os) refl

-- a text in the place of the zeros
pub texted : (old mid new : Stored) (o : Object) (n : ℕ) (us : List ℕ) → n ≡ length old.objects → mid ≡ record { objects = old.objects ++ o ∷ []; monitors = old.monitors ++ free ∷ []; size = old.size }
    → new ≡ record mid { objects = set mid.objects n (text us) } → new ≡ record { objects = old.objects ++ text us ∷ []; monitors = old.monitors ++ free ∷ []; size = old.size }
texted old mid new o n us e m w =
    w ∙ ap (λ (s : Stored). record s { objects = set s.objects n (text us) }) m
    ∙ ap (λ (k : ℕ). record { objects = set (old.objects ++ o ∷ []) k (text us); monitors = old.monitors ++ free ∷ []; size = old.size }) e
    ∙ ap (λ (xs : List Object). record { objects = xs; monitors = old.monitors ++ free ∷ []; size = old.size }) (set_last old.objects o (text us))
