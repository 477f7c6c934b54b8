-- What a write to the array changes.
use Rattle.std.proofs.Common.{◌≡◌, ℕ, zero, suc, ◌+◌, ◌-◌, ◌<◌, ◌≤◌, ◌^◌, List, [], ◌∷◌, length, take, drop, get_or, refl, sym, ap, ◌∙◌, arith, add-one, subst}
use Rattle.std.proofs.Math.ListN.{set, length-drop, length-set}
use Rattle.std.proofs.lemmas.Grind.{common_steps}
use Rattle.std.proofs.lemmas.List.{take-set-le, drop-set-lt, drop-set-add, drop-set, drop-drop, drop-take, take-take, get_or-take, get_or-drop, take_more, reverse-append}
use Rattle.std.proofs.lemmas.Option.{slice_get_read, slice_get_past}
use Rattle.std.proofs.lemmas.Bool.Decides.{nat_tests}
use Rattle.std.specs.Prelude.{IsSome, true, false, nat_lt, nat_le, Ok, slice_get, reverse, replicate, ◌++◌, Some, None, option_map}
use Rattle.mvm_frame.specs.declared.key.FrameKey.{FrameKey}
use Rattle.mvm_frame.specs.declared.slot.Slot.TheVariants.{Unset}
use Rattle.mvm_frame.specs.Calls.{room_of, reached, enter, fits, place_of, without, with_frame}
use Rattle.std.proofs.Math.Seq.{take-set-lt, drop-cons}
use Rattle.mvm_frame.specs.declared.slot.Slot.{Slot}
use Rattle.mvm_frame.specs.declared.rows.Row.{Row}
use Rattle.mvm_frame.specs.Parts.{StackParts, frames_of, frames_by, stack_with}
use Rattle.mvm_frame.specs.Laid.{part, callers_of, operands_of, stack_of, key_of, InOrder, Beneath, Stands}
use Rattle.mvm_frame.specs.RowsParts.{RowsParts}
use Rattle.mvm_frame.proofs.FrameLaws.{both}

pub length_part : (from to : ℕ) (ws : List Slot) → to ≤ length ws → length (part from to ws) ≡ to - from
unfolding part
length_part from to ws h = grind (arith, common_steps)

cons_take : (n m : ℕ) (w : Slot) (ws : List Slot) → n ≡ m + 1 → take n (w ∷ ws) ≡ w ∷ take m ws
cons_take zero m w ws e = absurd (omega arith)
cons_take (suc n) m w ws e = (let k : n ≡ m = omega arith in ap (λ j. w ∷ take j ws) k)

-- a write directly below a part makes the part longer
pub part_put : (from to i : ℕ) (ws : List Slot) (w : Slot) → i + 1 ≡ from → from ≤ to → to ≤ length ws → part i to (set ws i w) ≡ w ∷ part from to ws
unfolding part
part_put from to i ws w e h k =
    let below : i < length ws = omega arith in
    rw (drop-set ws i w below, e) (cons_take (to - i) (to - from) w (drop from ws) (omega arith))

-- the lowest slot of a part
pub part_first : (from to : ℕ) (ws : List Slot) (w : Slot) → from < to → to ≤ length ws → part from to ws ≡ get_or ws from w ∷ part (from + 1) to ws
unfolding part
part_first from to ws w h k =
    let below : from < length ws = omega arith in
    rw (add-one from, drop-cons ws from w) (cons_take (to - from) (to - suc from) (get_or ws from w) (drop (suc from) ws) (omega arith))

pub part_above : (from to i : ℕ) (ws : List Slot) (w : Slot) → i < from → part from to (set ws i w) ≡ part from to ws
unfolding part
part_above from to i ws w h = rw drop-set-lt refl

pub part_at : (from to k : ℕ) (ws : List Slot) (w : Slot) → from + k < to → part from to (set ws (from + k) w) ≡ set (part from to ws) k w
unfolding part
part_at from to k ws w h =
    let lt : k < to - from = omega arith in
    rw (drop-set-add from ws k w, take-set-lt (to - from) (drop from ws) k w lt) refl

pub part_under : (from to i : ℕ) (ws : List Slot) (w : Slot) → from ≤ i → to ≤ i → part from to (set ws i w) ≡ part from to ws
unfolding part
part_under from to i ws w h l =
    let k : ℕ = i - from in
    let e : i ≡ from + k = omega arith in
    let le : to - from ≤ k = omega arith in
    rw (e, drop-set-add from ws k w, take-set-le (to - from) (drop from ws) k w le) refl

-- a write below the callers leaves them
pub callers_keep : (rs : List Row) (floor base n i : ℕ) (ws : List Slot) (w : Slot) → Beneath floor base rs n → i < base → callers_of rs (set ws i w) ≡ callers_of rs ws
unfolding callers_of Beneath
callers_keep [] floor base n i ws w h lt = refl
callers_keep (r ∷ []) floor base n i ws w h lt = refl
callers_keep (r ∷ s ∷ rs) floor base n i ws w h lt =
    let o = h.1 in
    let a : i < r.sp = omega (arith, o.floor, h.0) in
    let b : i < r.bottom = omega (arith, o.sp, a) in
    let d : i < r.base = omega (arith, o.bottom, b) in
    let e = part_above r.sp r.bottom i ws w a in
    let f = part_above r.bottom r.base i ws w b in
    let g = callers_keep (s ∷ rs) r.floor r.base n i ws w h.2 d in
    rw (e, f, g) refl

-- ---- a stack

pub depth_is : (top : Row) (callers : RowsParts) (ws : List Slot) → Stands top callers.rows ws → top.bottom - top.sp ≡ length (stack_of top callers ws).operands.slots
depth_is top callers ws h = sym (length_part top.sp top.bottom ws (omega (arith, h.order.bottom, h.order.base)))

pub room_is : (top : Row) (callers : RowsParts) (ws : List Slot) → Stands top callers.rows ws → top.sp - top.floor ≡ (stack_of top callers ws).operands.depth - length (stack_of top callers ws).operands.slots
room_is top callers ws h = omega (arith, h.order.floor, h.order.sp, depth_is top callers ws h)

pub has_room : (top : Row) (callers : RowsParts) (ws : List Slot) → Stands top callers.rows ws → length (stack_of top callers ws).operands.slots < (stack_of top callers ws).operands.depth → top.floor < top.sp
has_room top callers ws h room = omega (arith, h.order.floor, h.order.sp, depth_is top callers ws h, room)

-- another top one of the operands, and a write that the order allows
pub moved : (top : Row) (rows : List Row) (ws : List Slot) (i : ℕ) → Stands top rows ws → top.floor ≤ i → i ≤ top.bottom → Stands (record top { sp = i }) rows ws
moved top rows ws i h low high = record { few = h.few; order = record { floor = low; sp = high; bottom = h.order.bottom; base = h.order.base }; beneath = h.beneath }

pub written : (top : Row) (rows : List Row) (ws : List Slot) (i : ℕ) (w : Slot) → Stands top rows ws → Stands top rows (set ws i w)
written top rows ws i w h =
    let e : length ws ≡ length (set ws i w) = sym (length-set ws i w) in
    record {
      few = omega (arith, h.few, e);
      order = subst (InOrder top) e h.order;
      beneath = subst (Beneath top.floor top.base rows) e h.beneath;
    }

pub put_operands : (top : Row) (callers : RowsParts) (ws : List Slot) (i : ℕ) (w : Slot) → Stands top callers.rows ws → i + 1 ≡ top.sp
    → operands_of (record top { sp = i }) (set ws i w) ≡ record (operands_of top ws) { slots = w ∷ (operands_of top ws).slots }
put_operands top callers ws i w h e = rw (part_put top.sp top.bottom i ws w e h.order.sp (omega (arith, h.order.bottom, h.order.base))) refl

pub put_rest : (top : Row) (callers : RowsParts) (ws : List Slot) (i : ℕ) (w : Slot) → Stands top callers.rows ws → i < top.bottom
    → (stack_of top callers (set ws i w)).rest ≡ (stack_of top callers ws).rest
put_rest top callers ws i w h lt =
    rw (part_above top.bottom top.base i ws w lt, callers_keep callers.rows top.floor top.base (length ws) i ws w h.beneath (omega (arith, h.order.bottom, lt)), length-set ws i w) refl

pub part_none : (at : ℕ) (ws : List Slot) → part at at ws ≡ []
unfolding part
part_none at ws = let e : at - at ≡ 0 = omega arith in rw e refl

pub part_drop : (from to n : ℕ) (ws : List Slot) → from + n ≤ to → part (from + n) to ws ≡ drop n (part from to ws)
unfolding part
part_drop from to n ws h =
    let e : to - from ≡ n + (to - (from + n)) = omega arith in
    rw (e, drop-take n (to - (from + n)) (drop from ws), drop-drop n from ws) refl

pub part_read : (from to k : ℕ) (ws : List Slot) (w : Slot) → k < to - from → to ≤ length ws → w ≡ get_or ws (from + k) w → slice_get (part from to ws) k ≡ Some w
unfolding part
part_read from to k ws w h l e =
    slice_get_read (take (to - from) (drop from ws)) (to - from) k w (sym (length_part from to ws l)) h (e ∙ sym (get_or-take (to - from) (drop from ws) k w h ∙ get_or-drop from ws k w))

pub part_past : (from to k : ℕ) (ws : List Slot) → to - from ≤ k → to ≤ length ws → None ≡ slice_get (part from to ws) k
part_past from to k ws h l = sym (slice_get_past (part from to ws) k (omega (arith, length_part from to ws l)))

-- the slots from a place on decide a part above it
pub part_same : (at from to : ℕ) (ws vs : List Slot) → at ≤ from → drop at ws ≡ drop at vs → part from to ws ≡ part from to vs
unfolding part
part_same at from to ws vs h e =
    let k : ℕ = from - at in
    let f : from ≡ at + k = omega arith in
    rw (f, ← drop-drop k at ws, ← drop-drop k at vs, e) refl

pub callers_same : (rs : List Row) (floor base n at : ℕ) (ws vs : List Slot) → Beneath floor base rs n → at ≤ base → drop at ws ≡ drop at vs → callers_of rs ws ≡ callers_of rs vs
unfolding callers_of Beneath
callers_same [] floor base n at ws vs h le same = refl
callers_same (r ∷ []) floor base n at ws vs h le same = refl
callers_same (r ∷ s ∷ rs) floor base n at ws vs h le same =
    let o = h.1 in
    let a : at ≤ r.sp = omega (arith, o.floor, h.0) in
    let b : at ≤ r.bottom = omega (arith, o.sp, a) in
    let d : at ≤ r.base = omega (arith, o.bottom, b) in
    let e = part_same at r.sp r.bottom ws vs a same in
    let f = part_same at r.bottom r.base ws vs b same in
    let g = callers_same (s ∷ rs) r.floor r.base n at ws vs h.2 d same in
    rw (e, f, g) refl

-- the frames take what lies above the floor
callers_reach : (rs : List Row) (floor base n : ℕ) (ws : List Slot) → n ≡ length ws → floor ≤ base → base ≤ n → Beneath floor base rs n → reached (callers_of rs ws) + base ≡ n
unfolding callers_of Beneath
callers_reach [] floor base n ws e f b h = omega (arith, h)
callers_reach (r ∷ []) floor base n ws e f b h = omega (arith, h.0, h.2)
callers_reach (r ∷ s ∷ rs) floor base n ws e f b h =
    let o = h.1 in
    let k = callers_reach (s ∷ rs) r.floor r.base n ws e (omega (arith, o.floor, o.sp, o.bottom)) o.base h.2 in
    let l = length_part r.bottom r.base ws (omega (arith, o.base)) in
    omega (arith, h.0, o.floor, o.sp, o.bottom, k, l)

words_by : (top : Row) (rows : List Row) (most : ℕ) (ws : List Slot) → Stands top rows ws → reached (frames_of (stack_of top (record { most = most; rows = rows }) ws)) + top.floor ≡ length ws
unfolding Beneath
words_by top [] most ws h = omega (arith, h.beneath)
words_by top (r ∷ rs) most ws h =
    let o = h.order in
    let k = callers_reach (r ∷ rs) top.floor top.base (length ws) ws refl (omega (arith, o.floor, o.sp, o.bottom)) o.base h.beneath in
    let l = length_part top.bottom top.base ws o.base in
    omega (arith, o.floor, o.sp, o.bottom, k, l)

pub words_are : (top : Row) (callers : RowsParts) (ws : List Slot) → Stands top callers.rows ws → reached (frames_of (stack_of top callers ws)) + top.floor ≡ length ws
words_are top callers ws h = words_by top callers.rows callers.most ws h

callers_count : (r : Row) (rs : List Row) (ws : List Slot) → length (callers_of (r ∷ rs) ws) ≡ length rs
unfolding callers_of
callers_count r [] ws = refl
callers_count r (s ∷ rs) ws = ap suc (callers_count s rs ws)

count_by : (top : Row) (rows : List Row) (most : ℕ) (ws : List Slot) → length (frames_of (stack_of top (record { most = most; rows = rows }) ws)) ≡ length rows
count_by top [] most ws = refl
count_by top (r ∷ rs) most ws = ap suc (callers_count r rs ws)

pub count_is : (top : Row) (callers : RowsParts) (ws : List Slot) → length (frames_of (stack_of top callers ws)) ≡ length callers.rows
count_is top callers ws = count_by top callers.rows callers.most ws

-- ---- a frame that goes

pub left_stands : (r : Row) (rs rows : List Row) (floor base n : ℕ) (ws : List Slot) → n ≡ length ws → n < 2 ^ 32 → rows ≡ r ∷ rs → Beneath floor base rows n → Stands r rs ws
unfolding Beneath
left_stands r rs rows floor base n ws e few f h =
    let g : Beneath floor base (r ∷ rs) n = subst (λ xs. Beneath floor base xs n) f h in
    record { few = omega (arith, few, e); order = subst (InOrder r) e g.1; beneath = subst (Beneath r.floor r.base rs) e g.2 }

pub left_is : (r : Row) (rs : List Row) (most : ℕ) (ws : List Slot) → Stands r rs ws → stack_of r (record { most = most; rows = rs }) ws ≡ stack_with (callers_of (r ∷ rs) ws) most (length ws)
unfolding callers_of Beneath
left_is r [] most ws h =
    let o = h.order in
    let f : r.floor ≡ length ws = h.beneath in
    let a : r.sp ≡ length ws = omega (arith, o.floor, o.sp, o.bottom, o.base, f) in
    let b : r.bottom ≡ length ws = omega (arith, o.floor, o.sp, o.bottom, o.base, f) in
    let d : r.base ≡ length ws = omega (arith, o.floor, o.sp, o.bottom, o.base, f) in
    let z : length ws - length ws ≡ 0 = omega arith in
    rw (a, b, d, f, z, part_none (length ws) ws) refl
left_is r (s ∷ rs) most ws h = refl

-- ---- a frame that comes

waiting_is : (top : Row) (rows : List Row) (most : ℕ) (ws vs : List Slot) (args : ℕ) → Stands top rows ws → top.sp + args ≤ top.bottom → drop top.floor vs ≡ drop top.floor ws
    → callers_of (record top { sp = top.sp + args } ∷ rows) vs ≡ frames_by (key_of top.key rows) (without args (stack_of top (record { most = most; rows = rows }) ws))
unfolding callers_of
waiting_is top [] most ws vs args h lt same = refl
waiting_is top (r ∷ rs) most ws vs args h lt same =
    let o = h.order in
    let a : part (top.sp + args) top.bottom vs ≡ part (top.sp + args) top.bottom ws = part_same top.floor (top.sp + args) top.bottom vs ws (omega (arith, o.floor)) same in
    let b : part top.bottom top.base vs ≡ part top.bottom top.base ws = part_same top.floor top.bottom top.base vs ws (omega (arith, o.floor, o.sp)) same in
    let d : callers_of (r ∷ rs) vs ≡ callers_of (r ∷ rs) ws = callers_same (r ∷ rs) top.floor top.base (length ws) top.floor vs ws h.beneath (omega (arith, o.floor, o.sp, o.bottom)) same in
    rw (a, b, d, part_drop top.sp top.bottom args ws lt) refl

taken : (from to n : ℕ) (ws : List Slot) → n ≤ to - from → take n (part from to ws) ≡ take n (drop from ws)
unfolding part
taken from to n ws h = take-take n (to - from) (drop from ws) h

abbrev pub new_row : FrameKey → ℕ → ℕ → ℕ → Row
new_row key floor locals depth = record { key = key; pc = 0; floor = floor - locals - depth; sp = floor - locals; bottom = floor - locals; base = floor }

pub entered_is : (top : Row) (callers : RowsParts) (ws vs : List Slot) (key : FrameKey) (locals depth args : ℕ) → Stands top callers.rows ws → args ≤ length (stack_of top callers ws).operands.slots → locals + depth ≤ top.floor
    → part (top.floor - locals) top.floor vs ≡ reverse (take args (drop top.sp ws)) ++ replicate (top.floor - (top.floor - locals) - args) Unset → drop top.floor vs ≡ drop top.floor ws → length vs ≡ length ws
    → stack_of (new_row key top.floor locals depth) (record { most = callers.most; rows = record top { sp = top.sp + args } ∷ callers.rows }) vs ≡ with_frame key locals depth args (stack_of top callers ws)
entered_is top callers ws vs key locals depth args h few room laid same len =
    let o = h.order in
    let few' : args ≤ top.bottom - top.sp = omega (arith, depth_is top callers ws h, few) in
    let z : part (top.floor - locals) (top.floor - locals) vs ≡ [] = part_none (top.floor - locals) vs in
    let d : top.floor - locals - (top.floor - locals - depth) ≡ depth = omega (arith, room) in
    let n : top.floor - (top.floor - locals) - args ≡ locals - args = omega (arith, room) in
    let w = waiting_is top callers.rows callers.most ws vs args h (omega (arith, few', o.sp)) same in
    let t : take args (part top.sp top.bottom ws) ≡ take args (drop top.sp ws) = taken top.sp top.bottom args ws few' in
    rw (z, d, laid, n, w, len, t) refl

pub entered_stands : (top : Row) (rows : List Row) (ws vs : List Slot) (key : FrameKey) (locals depth args : ℕ) → Stands top rows ws → locals + depth ≤ top.floor → top.sp + args ≤ top.bottom → length vs ≡ length ws
    → Stands (new_row key top.floor locals depth) (record top { sp = top.sp + args } ∷ rows) vs
unfolding Beneath
entered_stands top rows ws vs key locals depth args h room few len =
    let o = h.order in
    record {
      few = omega (arith, h.few, len);
      order = record { floor = omega (arith, room); sp = omega arith; bottom = omega (arith, room); base = omega (arith, len, o.floor, o.sp, o.bottom, o.base) };
      beneath = (refl, record { floor = omega (arith, o.floor); sp = few; bottom = o.bottom; base = omega (arith, len, o.base) }, subst (Beneath top.floor top.base rows) (sym len) h.beneath);
    }

-- ---- local variables

pub set_locals : (top : Row) (callers : RowsParts) (ws : List Slot) (at : ℕ) (w : Slot) → Stands top callers.rows ws → at < length (stack_of top callers ws).rest.locals
    → (stack_of top callers (set ws (top.bottom + at) w)).rest ≡ record (stack_of top callers ws).rest { locals = set (stack_of top callers ws).rest.locals at w }
set_locals top callers ws at w h lt =
    let o = h.order in
    let lt' : top.bottom + at < top.base = omega (arith, length_part top.bottom top.base ws o.base, lt) in
    rw (part_at top.bottom top.base at ws w lt', callers_keep callers.rows top.floor top.base (length ws) (top.bottom + at) ws w h.beneath lt', length-set ws (top.bottom + at) w) refl

pub set_operands : (top : Row) (ws : List Slot) (at : ℕ) (w : Slot) → InOrder top (length ws) → operands_of top (set ws (top.bottom + at) w) ≡ operands_of top ws
set_operands top ws at w o = rw (part_under top.sp top.bottom (top.bottom + at) ws w (omega (arith, o.sp)) (omega arith)) refl

-- ---- the loops that lay out a frame

pub lay_unset : (at base : ℕ) (ws : List Slot) (w : Slot) → 0 < at → at ≤ base → base ≤ length ws → part at base ws ≡ replicate (base - at) w → part (at - 1) base (set ws (at - 1) w) ≡ replicate (base - (at - 1)) w
lay_unset at base ws w pos h l e =
    let n : base - (at - 1) ≡ suc (base - at) = omega (arith, pos) in
    rw (part_put at base (at - 1) ws w (omega (arith, pos)) h l, e, n) refl

reversed : (xs : List Slot) (k : ℕ) (w : Slot) → k < length xs → w ≡ get_or xs k w → reverse (take (k + 1) xs) ≡ w ∷ reverse (take k xs)
reversed xs k w lt e = rw (take_more xs k w lt, ← e, reverse-append (take k xs) (w ∷ [])) refl

above : (base at : ℕ) (ws vs : List Slot) → base ≤ at → drop base ws ≡ drop base vs → drop at ws ≡ drop at vs
above base at ws vs h e =
    let k : ℕ = at - base in
    let f : at ≡ base + k = omega arith in
    rw (f, ← drop-drop k base ws, ← drop-drop k base vs, e) refl

pub lay_arg : (at base k sp : ℕ) (ws old unset : List Slot) (w : Slot) → 0 < at → at ≤ base → base ≤ sp → sp + k < length old → length ws ≡ length old → drop base ws ≡ drop base old → w ≡ get_or ws (sp + k) w
    → part at base ws ≡ reverse (take k (drop sp old)) ++ unset → part (at - 1) base (set ws (at - 1) w) ≡ reverse (take (k + 1) (drop sp old)) ++ unset
lay_arg at base k sp ws old unset w pos h le lt len same is e =
    let below : k < length (drop sp old) = omega (arith, length-drop sp old) in
    let there : get_or ws (sp + k) w ≡ get_or (drop sp old) k w = sym (get_or-drop sp ws k w) ∙ ap (λ xs. get_or xs k w) (above base sp ws old le same) in
    rw (part_put at base (at - 1) ws w (omega (arith, pos)) h (omega (arith, len, le, lt)), e, reversed (drop sp old) k w below (is ∙ there)) refl

pub above_set : (base i : ℕ) (ws old : List Slot) (w : Slot) → i < base → drop base ws ≡ drop base old → drop base (set ws i w) ≡ drop base old
above_set base i ws old w lt same = drop-set-lt base ws i w lt ∙ same

pub none_yet : (base : ℕ) (ws : List Slot) → part base base ws ≡ replicate (base - base) Unset
none_yet base ws = let e : base - base ≡ 0 = omega arith in rw (e, part_none base ws) refl

pub lay_begun : (at base bottom args : ℕ) (ws : List Slot) (w : Slot) → at ≡ bottom + args → part at base ws ≡ replicate (base - at) w → part at base ws ≡ replicate (base - bottom - args) w
lay_begun at base bottom args ws w e h = (let n : base - bottom - args ≡ base - at = omega arith in rw n h)

pub lay_ended : (at base bottom k args : ℕ) (ws old unset : List Slot) → at + k ≡ bottom + args → k ≡ args → part at base ws ≡ reverse (take k old) ++ unset → part bottom base ws ≡ reverse (take args old) ++ unset
lay_ended at base bottom k args ws old unset e f h =
    let g : bottom ≡ at = omega arith in
    rw (g, ← f) h

-- ---- whether a frame fits

pub fits_full : (top : Row) (callers : RowsParts) (ws : List Slot) (locals depth : ℕ) → length callers.rows ≡ callers.most → fits locals depth (stack_of top callers ws) ≡ false
fits_full top callers ws locals depth full =
    let n = count_is top callers ws in
    let e : nat_lt (length (frames_of (stack_of top callers ws))) callers.most ≡ false = grind (arith, nat_tests) in
    rw e refl

pub fits_words : (top : Row) (callers : RowsParts) (ws : List Slot) (locals depth : ℕ) → Stands top callers.rows ws → length callers.rows < callers.most → fits locals depth (stack_of top callers ws) ≡ nat_le (locals + depth) top.floor
fits_words top callers ws locals depth h room =
    let m = count_is top callers ws in
    let n = words_are top callers ws h in
    let d : nat_lt (length (frames_of (stack_of top callers ws))) callers.most ≡ true = grind (arith, nat_tests) in
    let e : nat_le (reached (frames_of (stack_of top callers ws)) + locals + depth) (length ws) ≡ nat_le (locals + depth) top.floor = grind (arith, nat_tests) in
    rw (d, e) refl

pub rows_given : (top : Row) (callers : RowsParts) (ws : List Slot) (s : StackParts) (locals depth : ℕ) → stack_of top callers ws ≡ s → true ≡ fits locals depth s → length callers.rows < callers.most
rows_given top callers ws s locals depth is e =
    let t = both (nat_lt (length (frames_of (stack_of top callers ws))) callers.most) (nat_le (reached (frames_of (stack_of top callers ws)) + locals + depth) (length ws)) (ap (λ (x : StackParts). fits locals depth x) is ∙ sym e) in
    let a : length (frames_of (stack_of top callers ws)) < callers.most = grind (arith, nat_tests, t.0) in
    omega (arith, a, count_is top callers ws)

pub words_given : (top : Row) (callers : RowsParts) (ws : List Slot) (s : StackParts) (locals depth : ℕ) → Stands top callers.rows ws → stack_of top callers ws ≡ s → true ≡ fits locals depth s → locals + depth ≤ top.floor
words_given top callers ws s locals depth h is e =
    let t = both (nat_lt (length (frames_of (stack_of top callers ws))) callers.most) (nat_le (reached (frames_of (stack_of top callers ws)) + locals + depth) (length ws)) (ap (λ (x : StackParts). fits locals depth x) is ∙ sym e) in
    let a : reached (frames_of (stack_of top callers ws)) + locals + depth ≤ length ws = grind (arith, nat_tests, t.1) in
    omega (arith, a, words_are top callers ws h)

pub enters : (key : FrameKey) (locals depth args : ℕ) (s : StackParts) → true ≡ fits locals depth s → enter key locals depth args s ≡ Ok (with_frame key locals depth args s)
unfolding enter
enters key locals depth args s e = rw (← e) refl

-- ---- no frame

abbrev pub no_row : FrameKey → ℕ → Row
no_row key n = record { key = key; pc = 0; floor = n; sp = n; bottom = n; base = n }

pub new_stands : (key : FrameKey) (n : ℕ) (rows : List Row) (ws : List Slot) → rows ≡ [] → length ws ≡ n → n < 2 ^ 32 → Stands (no_row key n) rows ws
unfolding Beneath
new_stands key n rows ws e f few =
    let b : Beneath n n [] (length ws) = sym f in
    record {
      few = omega (arith, f, few);
      order = record { floor = omega arith; sp = omega arith; bottom = omega arith; base = omega (arith, f) };
      beneath = subst (λ xs. Beneath n n xs (length ws)) (sym e) b;
    }

pub new_is : (key : FrameKey) (n most : ℕ) (callers : RowsParts) (ws : List Slot) → callers ≡ record { most = most; rows = [] } → length ws ≡ n → stack_of (no_row key n) callers ws ≡ stack_with [] most n
unfolding callers_of
new_is key n most callers ws e f =
    let z : n - n ≡ 0 = omega arith in
    rw (e, z, part_none n ws, f) refl

pub has_frame : (top : Row) (rows : List Row) (ws : List Slot) → Stands top rows ws → top.floor < top.base → IsSome (key_of top.key rows)
unfolding Beneath
has_frame top [] ws h lt = absurd (omega (arith, h.beneath, h.order.base, lt))
has_frame top (r ∷ rs) ws h lt = refl

-- ---- the frame that waits

pub waiting_room_is : (floor base : ℕ) (rows : List Row) (ws : List Slot) (row : Row) → Beneath floor base rows (length ws) → 1 < length rows → slice_get rows 0 ≡ Some row → Some (row.sp - row.floor) ≡ room_of (callers_of rows ws)
unfolding callers_of Beneath
waiting_room_is floor base [] ws row h two is = absurd (omega arith)
waiting_room_is floor base (r ∷ []) ws row h two is = absurd (omega arith)
waiting_room_is floor base (r ∷ s ∷ rs) ws row h two is =
    let o = h.1 in
    let e : r ≡ row = cc in
    let l = length_part r.sp r.bottom ws (omega (arith, o.bottom, o.base)) in
    let d : r.sp - r.floor ≡ r.bottom - r.floor - length (part r.sp r.bottom ws) = omega (arith, l, o.floor, o.sp) in
    rw (← e) (ap Some d)

pub no_waiting : (rows : List Row) (ws : List Slot) → length rows ≤ 1 → None ≡ room_of (callers_of rows ws)
unfolding callers_of
no_waiting [] ws few = refl
no_waiting (r ∷ []) ws few = refl
no_waiting (r ∷ s ∷ rs) ws few = absurd (omega arith)

pub waiting_order : (floor base n : ℕ) (rows : List Row) (row : Row) → Beneath floor base rows n → slice_get rows 0 ≡ Some row → row.floor ≤ row.sp
unfolding Beneath
waiting_order floor base n [] row h is = absurd cc
waiting_order floor base n (r ∷ rs) row h is = let e : r ≡ row = cc in subst (λ (x : Row). x.floor ≤ x.sp) e h.1.floor

-- ---- the callers

pub caller_is : (rows : List Row) (ws : List Slot) (at : ℕ) (row : Row) → at + 1 < length rows → slice_get rows at ≡ Some row → Some (record { key = row.key; pc = row.pc }) ≡ option_map place_of (slice_get (callers_of rows ws) at)
unfolding callers_of
caller_is [] ws at row h is = absurd (omega arith)
caller_is (r ∷ []) ws at row h is = absurd (omega arith)
caller_is (r ∷ s ∷ rs) ws zero row h is = let e : r ≡ row = cc in rw (← e) refl
caller_is (r ∷ s ∷ rs) ws (suc at) row h is = caller_is (s ∷ rs) ws at row (omega (arith, h)) is

pub no_caller : (rows : List Row) (ws : List Slot) (at : ℕ) → length rows ≤ at + 1 → None ≡ option_map place_of (slice_get (callers_of rows ws) at)
unfolding callers_of
no_caller [] ws at h = refl
no_caller (r ∷ rs) ws at h = rw (slice_get_past (callers_of (r ∷ rs) ws) at (omega (arith, callers_count r rs ws, h))) refl

pub waits_on : (top : Row) (rows : List Row) → 1 < length rows → IsSome (key_of top.key rows)
waits_on top [] h = absurd (omega arith)
waits_on top (r ∷ rs) h = refl

fits_left_by : (top : Row) (rows : List Row) (most : ℕ) (ws : List Slot) (locals depth : ℕ) → Stands top rows ws → length rows ≤ most → IsSome (key_of top.key rows)
    → fits locals depth (stack_with (callers_of rows ws) most (length ws)) ≡ nat_le (locals + depth) top.base
unfolding Beneath
fits_left_by top [] most ws locals depth h few some = absurd cc
fits_left_by top (r ∷ rs) most ws locals depth h few some =
    let b : (top.base ≡ r.floor) × InOrder r (length ws) × Beneath r.floor r.base rs (length ws) = h.beneath in
    let s : Stands r rs ws = left_stands r rs (r ∷ rs) top.floor top.base (length ws) ws refl h.few refl h.beneath in
    ap (λ (x : StackParts). fits locals depth x) (sym (left_is r rs most ws s))
    ∙ (fits_words r (record { most = most; rows = rs }) ws locals depth s (omega (arith, few)) ∙ ap (λ (k : ℕ). nat_le (locals + depth) k) (sym b.0))

-- where the top frame is left, another one has the room from its base on
pub fits_left : (top : Row) (callers : RowsParts) (ws : List Slot) (s : StackParts) (locals depth : ℕ) → Stands top callers.rows ws → stack_of top callers ws ≡ s → length callers.rows ≤ callers.most → IsSome s.rest.below.key
    → nat_le (locals + depth) top.base ≡ fits locals depth (stack_with s.rest.below.callers s.rest.below.most s.rest.below.words)
fits_left top callers ws s locals depth h is few some =
    sym (fits_left_by top callers.rows callers.most ws locals depth h few (subst (λ (x : StackParts). IsSome x.rest.below.key) (sym is) some))
    ∙ ap (λ (x : StackParts). fits locals depth (stack_with x.rest.below.callers x.rest.below.most x.rest.below.words)) is
