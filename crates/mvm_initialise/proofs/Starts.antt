-- A class whose initialisation begins: from room for its texts to the values of its constants.
use Rattle.std.proofs.Common.{◌≡◌, ℕ, List, length, Some, Ok, IsOk, refl, sym, ap, ◌∙◌, subst, All}
use Rattle.std.proofs.lemmas.Option.{slice_get_within}
use Rattle.mvm_heap.specs.Objects.{State}
use Rattle.mvm_mirror.specs.declared.state.InitState.TheVariants.{NotBegun, InProgress}
use Rattle.mvm_set.specs.declared.class.Lineage.{Lineage}
use Rattle.mvm_native.specs.declared.env.Env.{Env}
use Rattle.mvm_isolate.specs.Initialise.{in_state, constants_set}
use Rattle.mvm_isolate.specs.Interning.{MayIntern}
use Rattle.mvm_isolate.specs.Isolate.{Isolate}
use Rattle.mvm_isolate.specs.Numbered.{Numbered, class_at, name_at, named, IsClass}
use Rattle.mvm_isolate.specs.Sound.{Grows}
use Rattle.mvm_initialise.specs.Constants.{MayBeSet}
use Rattle.mvm_initialise.proofs.Setting.{grows_trans, name_stays}

-- room depends on what stands below the classes alone
room_by : (a b : Numbered) (count : ℕ) → b.env ≡ a.env → MayIntern a count → MayIntern b count
room_by a b count e room = record { objects = rw e room.objects; texts = rw e room.texts; words = rw e room.words }

-- a class at which nothing changed by names
module _ (old mid : Numbered) (mirror : ℕ) (class : Lineage) where
  pub stays_there : class_at old mirror ≡ Some class → Grows old mid → IsClass mid mirror
  stays_there at g = slice_get_within _ mirror class (g.classes mirror class at)

  pub state_stays : class_at old mirror ≡ Some class → Grows old mid → named mid ≡ named old → (named old).classes.states (name_at old mirror) ≡ NotBegun → (named mid).classes.states (name_at mid mirror) ≡ NotBegun
  state_stays at g same none =
      let name : name_at mid mirror ≡ name_at old mirror = name_stays old mid mirror class at g in
      rw (same, name) none

module _ (old mid next : Numbered) (thread mirror : ℕ) (class : Lineage) (at : class_at old mirror ≡ Some class) (g : Grows old mid) (same : named mid ≡ named old)
    (begun : named next ≡ in_state (name_at mid mirror) (InProgress thread) (named mid)) (h : Grows mid next) where
  pub next_class : class_at next mirror ≡ Some class
  next_class = h.classes mirror class (g.classes mirror class at)

  pub next_there : IsClass next mirror
  next_there = slice_get_within _ mirror class next_class

  pub next_fits : MayBeSet class.file (named old).heap → IsOk (constants_set (name_at next mirror) class.file class.file.fields (named next))
  next_fits fits = fits (name_at next mirror) (named next) (ap (λ (s : Isolate). s.heap) begun ∙ ap (λ (s : Isolate). s.heap) same)

  pub next_room : (count : ℕ) → next.env ≡ mid.env → count ≡ length class.file.fields → MayIntern mid count → MayIntern next (length class.file.fields)
  next_room count env is room = room_by mid next (length class.file.fields) env (subst (MayIntern mid) is room)

  is_begun : named next ≡ in_state (name_at old mirror) (InProgress thread) (named old)
  is_begun =
      let name : name_at mid mirror ≡ name_at old mirror = name_stays old mid mirror class at g in
      begun ∙ (ap (λ (n : List ℕ). in_state n (InProgress thread) (named mid)) name ∙ ap (in_state (name_at old mirror) (InProgress thread)) same)

  pub next_does : (new : Numbered) → constants_set (name_at next mirror) class.file class.file.fields (named next) ≡ Ok (named new)
      → constants_set (name_at old mirror) class.file class.file.fields (in_state (name_at old mirror) (InProgress thread) (named old)) ≡ Ok (named new)
  next_does new set =
      let name : name_at next mirror ≡ name_at old mirror = name_stays old next mirror class at (grows_trans old mid next g h) in
      let here : constants_set (name_at old mirror) class.file class.file.fields (named next) ≡ Ok (named new) = subst (λ (n : List ℕ). constants_set n class.file class.file.fields (named next) ≡ Ok (named new)) name set in
      subst (λ (s : Isolate). constants_set (name_at old mirror) class.file class.file.fields s ≡ Ok (named new)) is_begun here

  pub next_grows : (new : Numbered) → Grows next new → Grows old new
  next_grows new k = grows_trans old next new (grows_trans old mid next g h) k
