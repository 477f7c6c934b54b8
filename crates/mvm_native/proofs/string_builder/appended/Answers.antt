use Rattle.std.proofs.Common.{◌≡◌, ℕ, ◌+◌, ◌*◌, ◌++◌, ◌≤◌, List, length, refl, sym, subst, ap, ◌∙◌, arith}
use Rattle.std.specs.Prelude.{max}
use Rattle.mvm_heap.specs.Objects.{Object, State}
use Rattle.mvm_native.specs.Builders.{array_of, built, chars_in, count_of}
use Rattle.mvm_native.specs.Machine.{machine_of}
use Rattle.mvm_native.specs.Throwables.{HasTwo}
use Rattle.mvm_native.proofs.Builders.{append_fits, append_grows, begun_in_two, whole_length}
use Rattle.mvm_native.proofs.string_builder.appended.Goals as goal

pub hold-requires : goal.hold-requires
hold-requires c =
    let os : List Object = c.args.env.now.heap.state.objects in
    let fits : length (built os c.args.builder ++ c.args.units.now) ≤ length (chars_in os (array_of os c.args.builder)) =
    omega (arith, whole_length os c.args.builder c.args.units.now c.requires.builder, c.count_of-count.ensures.count, c.room_of-room.ensures.room, c.if-whole-room.true, ap (λ w. length (chars_in os w)) c.array_of-array.ensures.array) in
    subst (λ (s : State). HasTwo s.objects c.args.builder) (sym c.add.ensures)
    (rw (c.array_of-array.ensures.array, c.count_of-count.ensures.count) (begun_in_two os (array_of os c.args.builder) (built os c.args.builder ++ c.args.units.now) c.args.builder fits c.requires.builder.object))

pub returns-then-whole-room : goal.returns-then-whole-room
returns-then-whole-room c =
    let os : List Object = c.args.env.now.heap.state.objects in
    let fits : count_of os c.args.builder + length c.args.units.now ≤ length (chars_in os (array_of os c.args.builder)) =
    omega (arith, c.count_of-count.ensures.count, c.room_of-room.ensures.room, c.if-whole-room.true, ap (λ w. length (chars_in os w)) c.array_of-array.ensures.array) in
    rw (append_fits c.args.builder c.args.units.now (machine_of c.args.env.now) c.requires.builder fits, c.gives.ensures, c.hold.ensures, c.add.ensures, c.array_of-array.ensures.array, c.count_of-count.ensures.count, whole_length os c.args.builder c.args.units.now c.requires.builder) refl

pub returns : goal.returns
returns c =
    let os : List Object = c.args.env.now.heap.state.objects in
    let room : c.room_of-room.result ≡ length (chars_in os (array_of os c.args.builder)) = c.room_of-room.ensures.room ∙ ap (λ w. length (chars_in os w)) c.array_of-array.ensures.array in
    let whole : c.count_of-count.result + length c.args.units.now ≡ length (built os c.args.builder ++ c.args.units.now) =
    ap (λ (n : ℕ). n + length c.args.units.now) c.count_of-count.ensures.count ∙ sym (whole_length os c.args.builder c.args.units.now c.requires.builder) in
    let all : c.deref.result.now ≡ built os c.args.builder ++ c.args.units.now =
    c.deref.ensures.value ∙ c.in_ok-extend_from_slice.ensures.items ∙ ap (λ (xs : List ℕ). xs ++ c.args.units.now) c.in_ok-all.ensures.units in
    let size : c.max.result ≡ max (2 * length (chars_in os (array_of os c.args.builder)) + 2) (length (built os c.args.builder ++ c.args.units.now)) =
    c.max.ensures ∙ ap (λ (k : ℕ). max (2 * k + 2) (c.count_of-count.result + length c.args.units.now)) room ∙ ap (λ (n : ℕ). max (2 * length (chars_in os (array_of os c.args.builder)) + 2) n) whole in
    rw (append_grows c.args.builder c.args.units.now (machine_of c.args.env.now) c.requires.builder (omega (arith, c.if-whole-room.false, room, c.count_of-count.ensures.count)), ← size, ← all) c.rebuilt.ensures
