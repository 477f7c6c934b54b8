-- A native method offers a message only where no other thread is sending on the link.
use Rattle.std.proofs.Common.{◌≡◌, ◌<◌, ℕ, zero, suc, List, [], length, Bool, true, false, cond, Option, Some, None, Result, Ok, Err, refl}
use Rattle.std.proofs.lemmas.Option.{slice_get_within}
use Rattle.std.specs.Prelude.{◌+◌, ◌++◌, ℤ, pos, negsuc, nat_lt, slice_get}
use Rattle.mvm_base.specs.declared.value.Word.{Word}
use Rattle.mvm_base.specs.declared.value.Word.TheVariants.{Int, Long, Ref, Null}
use Rattle.mvm_builtin.specs.declared.natives.Native.{Native}
use Rattle.mvm_builtin.specs.declared.natives.Native.TheVariants as native
use Rattle.mvm_heap.specs.Objects.{State}
use Rattle.mvm_heap.specs.declared.kind.AllocFault.{AllocFault}
use Rattle.mvm_history.specs.declared.ask.Ask.{Ask as AskOf}
use Rattle.mvm_history.specs.declared.end.LimitKind.TheVariants.{Output}
use Rattle.mvm_history.specs.declared.launch.Launch.{Launch}
use Rattle.mvm_history.specs.declared.launch.LinkRow.{LinkRow}
use Rattle.mvm_history.specs.declared.message.TheConstants.{MOST_ELEMENTS}
use Rattle.mvm_native.specs.Builders.{append, builder_length, builder_to_string, init_builder, rebuilt}
use Rattle.mvm_native.specs.Calls.{called}
use Rattle.mvm_native.specs.Integers.{parse_int, int_or_throw}
use Rattle.mvm_native.specs.Isolates.{asked_or_throw, halt_isolate, isolate_number, start_isolate}
use Rattle.mvm_native.specs.Links.{close, closed_over, is_another, is_end, link_at, link_if, message_of, offered, receive, received, received_over, send, sent_over, use_of}
use Rattle.mvm_native.specs.Machine.{Machine, gives_truth, made}
use Rattle.mvm_native.specs.Objects.{notify, object_equals, owns, wait, waiting}
use Rattle.mvm_native.specs.Prints.{printed}
use Rattle.mvm_native.specs.Strings.{char_at, hash_code, part_or_throw, string_equals, string_length, substring, unit_or_throw}
use Rattle.mvm_native.specs.Strings as strings
use Rattle.mvm_native.specs.Threads.{init_thread, join, returned_or_join, start, started_or_start}
use Rattle.mvm_native.specs.Throwables.{init_throwable}
use Rattle.mvm_native.specs.declared.env.LinkUse.{LinkUse}
use Rattle.mvm_native.specs.declared.link.End.{End}
use Rattle.mvm_native.specs.declared.link.End.TheVariants.{Sending}
use Rattle.mvm_native.specs.declared.link.Sendable.{Sendable}
use Rattle.mvm_native.specs.declared.out.Act.TheVariants.{Offer, Receive}
use Rattle.mvm_native.specs.declared.out.Out.{Out}
use Rattle.mvm_native.specs.declared.out.Out.TheVariants.{Value, Throw, Act, Wait, Notify, Limit}
use Rattle.mvm_native.specs.declared.out.Thrown.TheVariants.{ClosedLinkException, IllegalArgumentException, IllegalMonitorStateException, IllegalStateException}
use Rattle.mvm_thread.proofs.OfferingFree.{Free}

abbrev FreeIn : Machine → Out → Type 0
FreeIn m out = Free m.launch m.thread m.links out

-- ---- answers that are no offers

truth_free : (m : Machine) (b : Bool) → FreeIn m (gives_truth b)
truth_free m true = tt
truth_free m false = tt

if_free : (m : Machine) (b : Bool) (x y : Out) → FreeIn m x → FreeIn m y → FreeIn m (cond b x y)
if_free m true x y p q = p
if_free m false x y p q = q

both_free : (m : Machine) (b : Bool) (x y : Out × Machine) → FreeIn m x.0 → FreeIn m y.0 → FreeIn m (cond b x y).0
both_free m true x y p q = p
both_free m false x y p q = q

made_free : (m : Machine) (r : Result (ℕ × State) AllocFault) → FreeIn m (made r m).0
made_free m (Ok x) = tt
made_free m (Err fault) = tt

rebuilt_free : (m : Machine) (n : ℕ) (units : List ℕ) (value : Option Word) (r : Result (Word × State) AllocFault) → FreeIn m (rebuilt n units value r m).0
rebuilt_free m n units value (Ok x) = tt
rebuilt_free m n units value (Err fault) = tt

asked_free : (m : Machine) (question : Option AskOf) → FreeIn m (asked_or_throw question)
asked_free m (Some question) = tt
asked_free m None = tt

equals_free : (m : Machine) (a b : Word) → FreeIn m (object_equals a b)
unfolding object_equals
equals_free m a b = truth_free m _

wait_free : (m : Machine) (object : ℕ) → FreeIn m (wait object m).0
unfolding wait
wait_free m object = both_free m (owns m object) (Wait object, waiting object m) (Throw IllegalMonitorStateException, m) tt tt

notify_free : (m : Machine) (all : Bool) (object : ℕ) → FreeIn m (notify all object m)
unfolding notify
notify_free m all object = if_free m (owns m object) (Notify object all) (Throw IllegalMonitorStateException) tt tt

length_free : (m : Machine) (n : ℕ) → FreeIn m (string_length n m)
unfolding string_length
length_free m n = tt

unit_free : (m : Machine) (place : Option ℕ) (units : List ℕ) → FreeIn m (unit_or_throw place units)
unit_free m (Some i) units = tt
unit_free m None units = tt

char_free : (m : Machine) (n : ℕ) (i : ℤ) → FreeIn m (char_at n i m)
unfolding char_at
char_free m n i = unit_free m _ _

part_free : (m : Machine) (span : Option (ℕ × ℕ)) (units : List ℕ) → FreeIn m (part_or_throw span units m).0
part_free m (Some s) units = made_free m _
part_free m None units = tt

substring_free : (m : Machine) (n : ℕ) (a b : ℤ) → FreeIn m (substring n a b m).0
unfolding substring
substring_free m n a b = part_free m _ _

string_equals_free : (m : Machine) (n : ℕ) (other : Word) → FreeIn m (string_equals n other m)
unfolding string_equals
string_equals_free m n other = truth_free m _

hash_free : (m : Machine) (n : ℕ) → FreeIn m (hash_code n m)
unfolding hash_code
hash_free m n = tt

value_free : (m : Machine) (units : List ℕ) → FreeIn m (strings.value_of units m).0
unfolding strings.value_of
value_free m units = made_free m _

builder_free : (m : Machine) (n : ℕ) → FreeIn m (init_builder n m).0
unfolding init_builder
builder_free m n = rebuilt_free m n [] None _

append_free : (m : Machine) (n : ℕ) (units : List ℕ) → FreeIn m (append n units m).0
unfolding append
append_free m n units = rebuilt_free m n _ _ _

builder_length_free : (m : Machine) (n : ℕ) → FreeIn m (builder_length n m)
unfolding builder_length
builder_length_free m n = tt

builder_text_free : (m : Machine) (n : ℕ) → FreeIn m (builder_to_string n m).0
unfolding builder_to_string
builder_text_free m n = made_free m _

printed_free : (m : Machine) (bytes : List ℕ) → FreeIn m (printed bytes m).0
unfolding printed
printed_free m bytes =
    both_free m (nat_lt m.launch.limits.output (length m.output + length bytes)) (Limit Output, m) (Value None, record m { output = m.output ++ bytes }) tt tt

int_free : (m : Machine) (n : Option ℤ) → FreeIn m (int_or_throw n)
int_free m (Some n) = tt
int_free m None = tt

parse_free : (m : Machine) (word : Word) → FreeIn m (parse_int word m)
unfolding parse_int
parse_free m word = int_free m _

init_thread_free : (m : Machine) (n : ℕ) (target : Word) → FreeIn m (init_thread n target m).0
unfolding init_thread
init_thread_free m n target = tt

started_free : (m : Machine) (n number : ℕ) → FreeIn m (started_or_start n number)
started_free m n zero = tt
started_free m n (suc thread) = tt

start_free : (m : Machine) (n : ℕ) → FreeIn m (start n m)
unfolding start
start_free m n = started_free m n _

returned_free : (m : Machine) (number : ℕ) → FreeIn m (returned_or_join number)
returned_free m zero = tt
returned_free m (suc thread) = tt

join_free : (m : Machine) (n : ℕ) → FreeIn m (join n m)
unfolding join
join_free m n = returned_free m _

number_free : (m : Machine) → FreeIn m (isolate_number m)
unfolding isolate_number
number_free m = tt

start_isolate_free : (m : Machine) (n : ℤ) → FreeIn m (start_isolate n m)
unfolding start_isolate
start_isolate_free m n = asked_free m _

halt_free : (m : Machine) (n status : ℤ) → FreeIn m (halt_isolate n status m)
unfolding halt_isolate
halt_free m n status = asked_free m _

init_throwable_free : (m : Machine) (n : ℕ) (message cause : Word) → FreeIn m (init_throwable n message cause m).0
unfolding init_throwable
init_throwable_free m n message cause = tt

received_free : (m : Machine) (link : ℕ) (state : LinkUse) → FreeIn m (received link state m.thread)
received_free m link state =
    if_free m state.closed (Throw ClosedLinkException) (cond (is_another m.thread state.receiver) (Throw IllegalStateException) (Act (Receive link))) tt
    (if_free m (is_another m.thread state.receiver) (Throw IllegalStateException) (Act (Receive link)) tt tt)

received_over_free : (m : Machine) (link : Option ℕ) → FreeIn m (received_over link m)
received_over_free m None = tt
received_over_free m (Some link) = received_free m link (use_of m.links link)

receive_free : (m : Machine) (link : ℤ) → FreeIn m (receive link m)
unfolding receive
receive_free m link = received_over_free m _

closed_free : (m : Machine) (link : Option ℕ) → FreeIn m (closed_over link)
closed_free m None = tt
closed_free m (Some link) = tt

close_free : (m : Machine) (link : ℤ) → FreeIn m (close link m)
unfolding close
close_free m link = closed_free m _

-- ---- the offer

link_within : (end : End) (launch : Launch) (number link : ℕ) (row : Option LinkRow) → slice_get launch.links number ≡ row → link_if end launch.number number row ≡ Some link → link < length launch.links
link_within end launch number link None f e = absurd (let k : None ≡ Some link = e in cc)
link_within end launch number link (Some row) f e = by (is_end end launch.number row) e where
  by : (b : Bool) → cond b (Some number) None ≡ Some link → link < length launch.links
  by true h = let k : number ≡ link = cc in rw k at (slice_get_within launch.links number row f)
  by false h = absurd (let k : None ≡ Some link = h in cc)

at_within : (end : End) (launch : Launch) (number : ℤ) (link : ℕ) → link_at end number launch ≡ Some link → link < length launch.links
at_within end launch (pos number) link e = link_within end launch number link (slice_get launch.links number) refl e
at_within end launch (negsuc number) link e = absurd (let k : None ≡ Some link = e in cc)

offered_free : (m : Machine) (kind : Sendable) (link : ℕ) (items : List ℕ) → link < length m.launch.links → FreeIn m (offered kind link items (use_of m.links link) m.thread)
offered_free m kind link items h =
    let state = use_of m.links link in
    let offer = Act (Offer link (message_of kind items)) in
    let third = cond (is_another m.thread state.sender) (Throw IllegalStateException) offer in
    if_free m (nat_lt MOST_ELEMENTS (length items)) (Throw IllegalArgumentException) (cond state.closed (Throw ClosedLinkException) third) tt
    (if_free m state.closed (Throw ClosedLinkException) third tt (last (is_another m.thread state.sender) refl)) where
      last : (b : Bool) → is_another m.thread (use_of m.links link).sender ≡ b → FreeIn m (cond b (Throw IllegalStateException) (Act (Offer link (message_of kind items))))
      last true e = tt
      last false e = record { within = h; sender = e }

sent_free : (m : Machine) (kind : Sendable) (link : Option ℕ) (word : Word) → ((number : ℕ) → link ≡ Some number → number < length m.launch.links) → FreeIn m (sent_over kind link word m)
sent_free m kind None word h = tt
sent_free m kind (Some link) (Ref n) h = offered_free m kind link _ (h link refl)
sent_free m kind (Some link) (Int n) h = tt
sent_free m kind (Some link) (Long n) h = tt
sent_free m kind (Some link) Null h = tt

send_free : (m : Machine) (kind : Sendable) (link : ℤ) (word : Word) → FreeIn m (send kind link word m)
unfolding send
send_free m kind link word = sent_free m kind (link_at Sending link m.launch) word (λ number e. at_within Sending m.launch link number e)

pub called_free : (native : Native) (args : List Word) (m : Machine) → FreeIn m (called native args m).0
unfolding called
called_free native.InitObject args m = tt
called_free native.ObjectEquals args m = equals_free m _ _
called_free native.Wait args m = wait_free m _
called_free native.Notify args m = notify_free m false _
called_free native.NotifyAll args m = notify_free m true _
called_free native.StringLength args m = length_free m _
called_free native.CharAt args m = char_free m _ _
called_free native.Substring args m = substring_free m _ _ _
called_free native.StringEquals args m = string_equals_free m _ _
called_free native.HashCode args m = hash_free m _
called_free native.StringToString args m = tt
called_free native.ValueOfInt args m = value_free m _
called_free native.ValueOfLong args m = value_free m _
called_free native.ValueOfChar args m = value_free m _
called_free native.ValueOfBoolean args m = value_free m _
called_free native.InitBuilder args m = builder_free m _
called_free native.AppendInt args m = append_free m _ _
called_free native.AppendLong args m = append_free m _ _
called_free native.AppendChar args m = append_free m _ _
called_free native.AppendBoolean args m = append_free m _ _
called_free native.AppendText args m = append_free m _ _
called_free native.BuilderLength args m = builder_length_free m _
called_free native.BuilderToString args m = builder_text_free m _
called_free native.Exit args m = tt
called_free native.PrintInt args m = printed_free m _
called_free native.PrintLong args m = printed_free m _
called_free native.PrintChar args m = printed_free m _
called_free native.PrintBoolean args m = printed_free m _
called_free native.PrintText args m = printed_free m _
called_free native.PrintlnInt args m = printed_free m _
called_free native.PrintlnLong args m = printed_free m _
called_free native.PrintlnChar args m = printed_free m _
called_free native.PrintlnBoolean args m = printed_free m _
called_free native.PrintlnText args m = printed_free m _
called_free native.Println args m = printed_free m _
called_free native.ParseInt args m = parse_free m _
called_free native.InitThread args m = init_thread_free m _ _
called_free native.InitTarget args m = init_thread_free m _ _
called_free native.StartThread args m = start_free m _
called_free native.Join args m = join_free m _
called_free native.CurrentThread args m = tt
called_free native.SysPrintln args m = printed_free m _
called_free native.IsolateNumber args m = number_free m
called_free native.StartIsolate args m = start_isolate_free m _
called_free native.HaltIsolate args m = halt_free m _ _
called_free native.SendInts args m = send_free m _ _ _
called_free native.SendLongs args m = send_free m _ _ _
called_free native.SendBytes args m = send_free m _ _ _
called_free native.SendText args m = send_free m _ _ _
called_free native.Receive args m = receive_free m _
called_free native.CloseLink args m = close_free m _
called_free native.InitThrowable args m = init_throwable_free m _ _ _
called_free native.InitMessage args m = init_throwable_free m _ _ _
called_free native.InitCause args m = init_throwable_free m _ _ _
called_free native.GetMessage args m = tt
called_free native.GetCause args m = tt
