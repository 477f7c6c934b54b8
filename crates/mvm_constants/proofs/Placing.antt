-- Entries that are placed in an index.
use Rattle.std.proofs.Common.{◌≡◌, ℕ, Bool, true, false, ◌==◌, List, [], ◌∷◌, ◌++◌, Result, Ok, Err, refl, sym, ap, ◌∙◌, eqb-true, if◌then◌else◌}
use Rattle.mvm_layout.specs.declared.parts.Item.{Item}
use Rattle.mvm_constants.specs.declared.key.Key.{Key}
use Rattle.mvm_constants.specs.declared.key.Lack.{Lack}
use Rattle.mvm_constants.specs.declared.key.Lack.TheVariants.{Missing, OtherKind}
use Rattle.mvm_constants.specs.declared.index.Index.{Index}
use Rattle.mvm_constants.specs.Index.{Keyed, Lowers, Waiting, waiting_for, Waits, is_among, is_settled, key_at}
use Rattle.mvm_constants.specs.Settling.{settles, Places, PlacesEach, PlacesWaiting}
use Rattle.mvm_constants.proofs.Settled.{lowers_keeps, lowers_here, lowers_sound, waits_keeps, waits_here, among_more}

pub places_key : (pool : List Item) (at : ℕ) (old : Index) (keyed : Keyed) (key : Key) → key_at pool old.numbers at ≡ Ok key → Lowers old.keyed key at keyed
    → Places pool at old (record old { keyed = keyed })
places_key pool at old keyed key is h = record {
  tells = record { texts = refl; numbers = refl; sound = lowers_sound pool old.numbers old.keyed keyed key at h is };
  keeps = lowers_keeps old.keyed keyed old.waiting key at h;
  here = ap (λ (e : Result Key Lack). is_settled keyed old.waiting e at) is ∙ lowers_here old.keyed keyed old.waiting key at h;
}

pub places_missing : (pool : List Item) (at : ℕ) (old : Index) (waiting : Waiting) (index : ℕ) → key_at pool old.numbers at ≡ Err (Missing index) → Waits old.waiting index at waiting
    → Places pool at old (record old { waiting = waiting })
places_missing pool at old waiting index is h = record {
  tells = record { texts = refl; numbers = refl; sound = λ s. s };
  keeps = waits_keeps old.keyed old.waiting waiting index at h;
  here = ap (λ (e : Result Key Lack). is_settled old.keyed waiting e at) is ∙ waits_here old.keyed old.waiting waiting index at h;
}

pub each_more : (pool : List Item) (entries : List ℕ) (at : ℕ) (old mid new : Index) → PlacesEach pool entries old mid → Places pool at mid new → PlacesEach pool (entries ++ at ∷ []) old new
each_more pool entries at old mid new p q = record {
  tells = record { texts = q.tells.texts ∙ p.tells.texts; numbers = q.tells.numbers ∙ p.tells.numbers; sound = λ s. q.tells.sound (p.tells.sound s) };
  keeps = λ e i s. q.keeps e i (p.keeps e i s);
  each = λ i h. by i (is_among i entries) refl h;
}
  where
    here : settles new (key_at pool old.numbers at) at ≡ true
    here = ap (λ (numbers : List ℕ). settles new (key_at pool numbers at) at) (sym p.tells.numbers) ∙ q.here

    by : (i : ℕ) (b : Bool) → is_among i entries ≡ b → is_among i (entries ++ at ∷ []) ≡ true → settles new (key_at pool old.numbers i) i ≡ true
    by i true k h = q.keeps (key_at pool old.numbers i) i (p.each i k)
    by i false k h = ap (λ (j : ℕ). settles new (key_at pool old.numbers j) j) (among_more i at entries h k) ∙ here

pub places_waiting : (pool : List Item) (index : ℕ) (old : Index) (waiting : Waiting) (new : Index) (entries : List ℕ) → entries ≡ waiting_for index old.waiting
    → ((other : ℕ) → waiting_for other waiting ≡ (if index == other then [] else waiting_for other old.waiting))
    → PlacesEach pool entries (record old { waiting = waiting }) new → PlacesWaiting pool index old new
places_waiting pool index old waiting new entries e others p = record {
  tells = record { texts = p.tells.texts; numbers = p.tells.numbers; sound = p.tells.sound };
  keeps = λ key i n s. p.keeps key i (kept key i n s);
  each = λ i h. p.each i (ap (is_among i) e ∙ h);
}
  where
    kept : (key : Result Key Lack) (i : ℕ) → (key ≡ Err (Missing index) → ⊥) → is_settled old.keyed old.waiting key i ≡ true → is_settled old.keyed waiting key i ≡ true
    kept (Ok key) i n s = s
    kept (Err OtherKind) i n s = s
    kept (Err (Missing m)) i n s = ap (is_among i) (others m) ∙ by (index == m) refl
      where
        by : (b : Bool) → (index == m) ≡ b → is_among i (if b then [] else waiting_for m old.waiting) ≡ true
        by true k = absurd (n (let f : ℕ → Result Key Lack = λ j. Err (Missing j) in ap f (sym (eqb-true index m k))))
        by false k = s
