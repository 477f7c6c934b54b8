use Rattle.std.proofs.Common.{◌≡◌, ◌<◌, arith, sym, subst}
use Rattle.std.specs.Prelude.{All}
use Rattle.mvm_monitor.specs.Waits.{Waits}
use Rattle.mvm_monitor.specs.declared.waits.Waiter.{Waiter}
use Rattle.mvm_monitor.proofs.Once.{kept_push, has_room}
use Rattle.mvm_monitor.proofs.waits.WaitList.add.Goals as goal

pub unreachable-requires : goal.unreachable-requires
unreachable-requires c =
    let known : c.args.thread < c.self.inside.threads = subst (λ (w : Waits). c.args.thread < w.threads) (sym c.self.view_is) c.requires.known in
    let awake : All (λ (w : Waiter). w.thread ≡ c.args.thread → ⊥) c.self.inside.waiters.items = subst (λ (w : Waits). All (λ (v : Waiter). v.thread ≡ c.args.thread → ⊥) w.waiters) (sym c.self.view_is) c.requires.awake in
    omega (arith, has_room _ _ _ _ c.self.invariant known awake, c.in-Err.ensures.full, c.self.inside.waiters.ok.0)

pub invariant_of-self : goal.invariant_of-self
invariant_of-self c =
    let known : c.args.thread < c.self.inside.threads = subst (λ (w : Waits). c.args.thread < w.threads) (sym c.self.view_is) c.requires.known in
    let awake : All (λ (w : Waiter). w.thread ≡ c.args.thread → ⊥) c.self.inside.waiters.items = subst (λ (w : Waits). All (λ (v : Waiter). v.thread ≡ c.args.thread → ⊥) w.waiters) (sym c.self.view_is) c.requires.awake in
    rw c.in-Ok.ensures.items (kept_push _ _ _ _ (record { object = c.args.object; thread = c.args.thread }) c.self.invariant c.in-Ok.ensures.capacity known awake)
