-- For each way of putting formats together: what is read is spelled so, and what is spelled so is read.
use Rattle.std.proofs.Common.{◌≡◌, ℕ, zero, suc, ◌+◌, Bool, true, false, cond, ltb, List, [], ◌∷◌, ◌++◌, length, take, drop, Option, Some, None, Result, Ok, Err, refl, sym, ap, subst, ◌∙◌, append_assoc, arith}
use Rattle.std.proofs.lemmas.Bool.{ltb-false, le-ltb}
use Rattle.std.proofs.lemmas.List.{take_at, drop_at, take-append-drop, length-append, length-take-le}
use Rattle.mvm_base.specs.Endian.{big_number}
use Rattle.mvm_base.specs.Place.{Place, run, numbered}
use Rattle.mvm_base.specs.Answers.{◌>>=◌}
use Rattle.mvm_layout.specs.Format.{Format, whole, bytes, number, given, followed, standing, mapped, choose, refused, kept, converted, if_passing, passing, passing_at, read_times, spells_times, times, counted}
use Rattle.mvm_layout.specs.declared.fault.ClassFault.{ClassFault}

-- x stands at the front of p, and q is behind it
pub record Stands {A : Type 0} (spells : A → ℕ → List ℕ → Type 0) (p : Place) (x : A) (q : Place) : Type 0 where
  pub text : List ℕ
  pub spelled : spells x p.at text
  pub front : p.rest ≡ text ++ q.rest
  pub place : q.at ≡ p.at + length text

pub record Exact {A : Type 0} (F : Format A) : Type 0 where
  pub sound : (p : Place) (x : A) (q : Place) → F.read p ≡ Ok (x, q) → Stands F.spells p x q
  pub complete : (x : A) (text rest : List ℕ) (at : ℕ) → F.spells x at text → F.read (record { at = at; rest = text ++ rest }) ≡ Ok (x, record { at = at + length text; rest = rest })

abbrev pub done : {A : Type 0} → A → Result A ClassFault
done x = Ok x

pub bind_ok : {A B : Type 0} (r : Result A ClassFault) (f : A → Result B ClassFault) (y : B) → (r >>= f) ≡ Ok y → (x : A) × (r ≡ Ok x) × (f x ≡ Ok y)
bind_ok (Ok x) f y e = (x, refl, e)
bind_ok (Err d) f y e = absurd cc

pub ok_is : {A : Type 0} (x y : A) → done x ≡ done y → x ≡ y
ok_is x y e = cc

-- ---- bytes

run_ok : (n : ℕ) (p : Place) (x : List ℕ) (q : Place) → whole (run n p) ≡ Ok (x, q) → (p.rest ≡ x ++ q.rest) × (q.at ≡ p.at + length x) × (length x ≡ n)
unfolding run
run_ok n p x q e = by (ltb (length p.rest) n) refl e
  where
    by : (b : Bool) → ltb (length p.rest) n ≡ b → whole (cond b (Err p.at) (Ok (take n p.rest, record { at = p.at + n; rest = drop n p.rest }))) ≡ Ok (x, q) → (p.rest ≡ x ++ q.rest) × (q.at ≡ p.at + length x) × (length x ≡ n)
    by true t u = absurd cc
    by false t u =
        let len : length (take n p.rest) ≡ n = length-take-le n p.rest (ltb-false _ _ t) in
        let k = ok_is (take n p.rest, record { at = p.at + n; rest = drop n p.rest }) (x, q) u in
        subst (λ (y : List ℕ × Place). (p.rest ≡ y.0 ++ y.1.rest) × (y.1.at ≡ p.at + length y.0) × (length y.0 ≡ n)) k (sym (take-append-drop n p.rest), ap (λ (m : ℕ). p.at + m) (sym len), len)

run_again : (n : ℕ) (x rest : List ℕ) (at : ℕ) → length x ≡ n → whole (run n (record { at = at; rest = x ++ rest })) ≡ Ok (x, record { at = at + length x; rest = rest })
unfolding run
run_again n x rest at len =
    let long : ltb (length (x ++ rest)) n ≡ false = le-ltb _ _ (omega (arith, length-append x rest)) in
    rw (long, take_at x rest n len, drop_at x rest n len, len) refl

pub bytes-exact : (n : ℕ) → Exact (bytes n)
bytes-exact n = record {
  sound = λ p x q e. (let b = run_ok n p x q e in record { text = x; spelled = (refl, b.2); front = b.0; place = b.1 });
  complete = λ x text rest at s. rw s.0 (run_again n x rest at s.1);
}

numbered_ok : (n : ℕ) (r : Result (List ℕ × Place) ℕ) (m : ℕ) (q : Place) → whole (numbered n r) ≡ Ok (m, q) → (x : List ℕ) × (whole r ≡ Ok (x, q)) × (big_number n x ≡ m)
numbered_ok n (Ok y) m q e =
    let k = ok_is (big_number n y.0, y.1) (m, q) e in
    (y.0, ap (λ (z : Place). done (y.0, z)) (ap (λ (z : ℕ × Place). z.1) k), ap (λ (z : ℕ × Place). z.0) k)
numbered_ok n (Err d) m q e = absurd cc

numbered_again : (n : ℕ) (r : Result (List ℕ × Place) ℕ) (x : List ℕ) (q : Place) → whole r ≡ Ok (x, q) → whole (numbered n r) ≡ Ok (big_number n x, q)
numbered_again n (Ok y) x q e = let k = ok_is y (x, q) e in rw k refl
numbered_again n (Err d) x q e = absurd cc

pub number-exact : (n : ℕ) → Exact (number n)
number-exact n = record {
  sound = λ p m q e. (
      let v = numbered_ok n (run n p) m q e in
      let b = run_ok n p v.0 q v.1 in
      record { text = v.0; spelled = (b.2, v.2); front = b.0; place = b.1 });
  complete = λ m text rest at s. numbered_again n (run n (record { at = at; rest = text ++ rest })) text _ (run_again n text rest at s.0) ∙ ap (λ (k : ℕ). done (k, record { at = at + length text; rest = rest })) s.1;
}

-- ---- a value that no bytes stand for, another value, a choice, none

pub given-exact : {A : Type 0} (y : A) → Exact (given y)
given-exact y = record {
  sound = λ p x q e. (let k = ok_is (y, p) (x, q) e in subst (λ (z : _ × Place). Stands (given y).spells p z.0 z.1) k (record { text = []; spelled = (refl, refl); front = refl; place = omega arith }));
  complete = λ x text rest at s. rw (s.0, s.1) (ap (λ (m : ℕ). done (y, record { at = m; rest = rest })) (omega arith));
}

pub mapped-exact : {A B : Type 0} (h : A → B) (F : Format A) → Exact F → Exact (mapped h F)
mapped-exact h F f = record {
  sound = λ p y q e. (
      let a = bind_ok (F.read p) (λ x. Ok (h x.0, x.1)) (y, q) e in
      let s = f.sound p a.0.0 a.0.1 a.1 in
      let k = ok_is (h a.0.0, a.0.1) (y, q) a.2 in
      subst (λ (z : _ × Place). Stands (mapped h F).spells p z.0 z.1) k (record { text = s.text; spelled = (a.0.0, s.spelled, refl); front = s.front; place = s.place }));
  complete = λ y text rest at s. rw (f.complete s.0 text rest at s.1, s.2) refl;
}

-- a value with its place
pub standing-exact : {A : Type 0} (F : Format A) → Exact F → Exact (standing F)
standing-exact F f = record {
  sound = λ p y q e. (
      let a = bind_ok (F.read p) (λ x. Ok ((p.at, x.0), x.1)) (y, q) e in
      let s = f.sound p a.0.0 a.0.1 a.1 in
      let k = ok_is ((p.at, a.0.0), a.0.1) (y, q) a.2 in
      subst (λ (z : (ℕ × _) × Place). Stands (standing F).spells p z.0 z.1) k (record { text = s.text; spelled = (refl, s.spelled); front = s.front; place = s.place }));
  complete = λ y text rest at s.
      rw (f.complete y.1 text rest at s.1) (ap (λ (n : ℕ). done ((n, y.1), record { at = at + length text; rest = rest })) (sym s.0));
}

pub choose-exact : {A : Type 0} (b : Bool) (F G : Format A) → Exact F → Exact G → Exact (choose b F G)
choose-exact true F G f g = f
choose-exact false F G f g = g

pub refused-exact : {A : Type 0} (fault : ClassFault) → Exact (refused {A = A} fault)
refused-exact fault = record { sound = λ p x q h. absurd cc; complete = λ x text rest at s. absurd s }

-- ---- what values stand for, and those that pass a test

pub kept_ok : {A : Type 0} (o : Option A) (fault : ClassFault) (x : A) → kept o fault ≡ Ok x → o ≡ Some x
kept_ok (Some y) fault x e = cc
kept_ok None fault x e = absurd cc

pub converted-exact : {A B : Type 0} (h : A → Option B) (fault : A → ClassFault) (F : Format A) → Exact F → Exact (converted h fault F)
converted-exact h fault F f = record {
  sound = λ p y q e. (
      let a = bind_ok (F.read p) (λ x. kept (h x.0) (fault x.0) >>= λ z. Ok (z, x.1)) (y, q) e in
      let b = bind_ok (kept (h a.0.0) (fault a.0.0)) (λ z. Ok (z, a.0.1)) (y, q) a.2 in
      let s = f.sound p a.0.0 a.0.1 a.1 in
      let k = ok_is (b.0, a.0.1) (y, q) b.2 in
      subst (λ (z : _ × Place). Stands (converted h fault F).spells p z.0 z.1) k (record { text = s.text; spelled = (a.0.0, s.spelled, kept_ok (h a.0.0) (fault a.0.0) b.0 b.1); front = s.front; place = s.place }));
  complete = λ y text rest at s. rw (f.complete s.0 text rest at s.1, s.2) refl;
}

pub passing-exact : {A : Type 0} (test : A → Bool) (fault : A → ClassFault) (F : Format A) → Exact F → Exact (passing test fault F)
passing-exact test fault F f = converted-exact (λ x. if_passing (test x) x) fault F f

pub passing_at-exact : {A : Type 0} (test : A → Bool) (fault : ℕ → ClassFault) (F : Format A) → Exact F → Exact (passing_at test fault F)
passing_at-exact test fault F f = record {
  sound = λ p x q e. (let s = (passing-exact test (λ y. fault p.at) F f).sound p x q e in record { text = s.text; spelled = s.spelled; front = s.front; place = s.place });
  complete = λ x text rest at s. (passing-exact test (λ y. fault at) F f).complete x text rest at s;
}

-- ---- one behind the other

joined : (p q r : Place) (s t : List ℕ) → p.rest ≡ s ++ q.rest → q.at ≡ p.at + length s → q.rest ≡ t ++ r.rest → r.at ≡ q.at + length t → (p.rest ≡ (s ++ t) ++ r.rest) × (r.at ≡ p.at + length (s ++ t))
joined p q r s t a b c d = (a ∙ ap (λ (x : List ℕ). s ++ x) c ∙ sym (append_assoc s t r.rest), omega (arith, length-append s t))

pub followed-exact : {A B : Type 0} (F : Format A) (G : A → Format B) → Exact F → ((x : A) → Exact (G x)) → Exact (followed F G)
followed-exact F G f g = record {
  sound = λ p x r e. (
      let a = bind_ok (F.read p) (λ y. (G y.0).read y.1 >>= λ z. Ok ((y.0, z.0), z.1)) (x, r) e in
      let b = bind_ok ((G a.0.0).read a.0.1) (λ z. Ok ((a.0.0, z.0), z.1)) (x, r) a.2 in
      let first = f.sound p a.0.0 a.0.1 a.1 in
      let second = (g a.0.0).sound a.0.1 b.0.0 b.0.1 b.1 in
      let j = joined p a.0.1 b.0.1 first.text second.text first.front first.place second.front second.place in
      let k = ok_is ((a.0.0, b.0.0), b.0.1) (x, r) b.2 in
      let there : (G a.0.0).spells b.0.0 (p.at + length first.text) second.text = subst (λ (n : ℕ). (G a.0.0).spells b.0.0 n second.text) first.place second.spelled in
      subst (λ (y : (_ × _) × Place). Stands (followed F G).spells p y.0 y.1) k (record { text = first.text ++ second.text; spelled = (first.text, second.text, first.spelled, there, refl {a = first.text ++ second.text}); front = j.0; place = j.1 }));
  complete = λ x text rest at s. (
      let one : F.read (record { at = at; rest = s.0 ++ (s.1 ++ rest) }) ≡ Ok (x.0, record { at = at + length s.0; rest = s.1 ++ rest }) = f.complete x.0 s.0 (s.1 ++ rest) at s.2 in
      let two = (g x.0).complete x.1 s.1 rest (at + length s.0) s.3 in
      let e : text ++ rest ≡ s.0 ++ (s.1 ++ rest) = rw s.4 (append_assoc s.0 s.1 rest) in
      let n : (at + length s.0) + length s.1 ≡ at + length text = rw s.4 (omega (arith, length-append s.0 s.1)) in
      rw (e, one, two, n) refl);
}

pub times-exact : {A : Type 0} (n : ℕ) (F : Format A) → Exact F → Exact (times n F)
times-exact zero F f = record {
  sound = λ p xs q e. (let k = ok_is ([], p) (xs, q) e in subst (λ (z : List _ × Place). Stands (spells_times F zero) p z.0 z.1) k (record { text = []; spelled = (refl, refl); front = refl; place = omega arith }));
  complete = λ xs text rest at s. rw (s.0, s.1) (ap (λ (m : ℕ). done ([], record { at = m; rest = rest })) (omega arith));
}
times-exact (suc n) F f = record {
  sound = λ p xs r e. (
      let a = bind_ok (F.read p) (λ y. read_times F n y.1 >>= λ z. Ok (y.0 ∷ z.0, z.1)) (xs, r) e in
      let b = bind_ok (read_times F n a.0.1) (λ z. Ok (a.0.0 ∷ z.0, z.1)) (xs, r) a.2 in
      let one = f.sound p a.0.0 a.0.1 a.1 in
      let two = (times-exact n F f).sound a.0.1 b.0.0 b.0.1 b.1 in
      let j = joined p a.0.1 b.0.1 one.text two.text one.front one.place two.front two.place in
      let k = ok_is (a.0.0 ∷ b.0.0, b.0.1) (xs, r) b.2 in
      let there : spells_times F n b.0.0 (p.at + length one.text) two.text = subst (λ (m : ℕ). spells_times F n b.0.0 m two.text) one.place two.spelled in
      subst (λ (z : List _ × Place). Stands (spells_times F (suc n)) p z.0 z.1) k (record { text = one.text ++ two.text; spelled = (one.text, two.text, one.spelled, there, refl {a = one.text ++ two.text}); front = j.0; place = j.1 }));
  complete = λ xs text rest at s. again xs text rest at s (λ ys t more place h. (times-exact n F f).complete ys t more place h);
}
  where
    again : (xs : List _) (text rest : List ℕ) (at : ℕ) → spells_times F (suc n) xs at text
        → ((ys : List _) (t more : List ℕ) (place : ℕ) → spells_times F n ys place t → read_times F n (record { at = place; rest = t ++ more }) ≡ Ok (ys, record { at = place + length t; rest = more }))
        → read_times F (suc n) (record { at = at; rest = text ++ rest }) ≡ Ok (xs, record { at = at + length text; rest = rest })
    again [] text rest at s all = absurd s
    again (x ∷ xs) text rest at s all =
        let a = f.complete x s.0 (s.1 ++ rest) at s.2 in
        let b = all xs s.1 rest (at + length s.0) s.3 in
        let e : text ++ rest ≡ s.0 ++ (s.1 ++ rest) = rw s.4 (append_assoc s.0 s.1 rest) in
        let m : (at + length s.0) + length s.1 ≡ at + length text = rw s.4 (omega (arith, length-append s.0 s.1)) in
        rw (e, a, b, m) refl

pub counted-exact : {A : Type 0} (F : Format A) → Exact F → Exact (counted F)
counted-exact F f = mapped-exact (λ x. x.1) (followed (number 2) (λ count. times count F)) (followed-exact (number 2) (λ count. times count F) (number-exact 2) (λ count. times-exact count F f))
