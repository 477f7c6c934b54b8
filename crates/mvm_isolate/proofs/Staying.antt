-- What a number stands for stays where an isolate grows.
use Rattle.std.proofs.Common.{◌≡◌, ℕ, ◌<◌, length, sym, subst}
use Rattle.mvm_mirror.specs.Arrays.{shapes_of}
use Rattle.mvm_mirror.specs.Kept.{classes_of}
use Rattle.mvm_isolate.specs.Numbered.{name_at, shape_at, IsArray, IsClass, Numbered}
use Rattle.mvm_isolate.specs.Sound.{Grows}
use Rattle.mvm_isolate.proofs.Growing.{name_stays, shape_stays, within}
use Rattle.mvm_isolate.proofs.Loading.{shapes_count}

module _ (old new : Numbered) (g : Grows old new) where
  pub class_within : (mirror : ℕ) → IsClass old mirror → IsClass new mirror
  class_within mirror h = within (classes_of old.mirrors) (classes_of new.mirrors) g.classes mirror h

  pub name_grows : (mirror : ℕ) → IsClass old mirror → name_at new mirror ≡ name_at old mirror
  name_grows mirror h = name_stays (classes_of old.mirrors) (classes_of new.mirrors) mirror g.classes h

  in_shapes : (row : ℕ) → IsArray old row → row < length (shapes_of old.arrays)
  in_shapes row h = subst (λ (count : ℕ). row < count) (sym (shapes_count old.arrays)) h

  pub array_within : (row : ℕ) → IsArray old row → IsArray new row
  array_within row h = subst (λ (count : ℕ). row < count) (shapes_count new.arrays) (within (shapes_of old.arrays) (shapes_of new.arrays) g.arrays row (in_shapes row h))

  pub shape_grows : (row : ℕ) → IsArray old row → shape_at new row ≡ shape_at old row
  shape_grows row h = shape_stays (shapes_of old.arrays) (shapes_of new.arrays) row g.arrays (in_shapes row h)
