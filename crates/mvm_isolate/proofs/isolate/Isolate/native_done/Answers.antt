use Rattle.std.proofs.Common.{ap, sym, ◌∙◌}
use Rattle.mvm_builtin.proofs.Numbers.{at}
use Rattle.mvm_builtin.specs.Natives.{native_at}
use Rattle.mvm_isolate.proofs.Calling.{called_err, called_gives, called_grows, called_sound, kept_links, unfit}
use Rattle.mvm_isolate.proofs.Held.{held}
use Rattle.mvm_isolate.proofs.isolate.Isolate.native_done.Goals as goal

pub invariant_of-self : goal.invariant_of-self
invariant_of-self c =
    let place = ap native_at c.number-number.ensures ∙ at c.args.native in
    let fit = rw place at c.if-fits.ensures.test in
    let done = rw place at c.call.ensures in
    called_sound (held c.self.inside) c.args.native c.args.args.now (sym fit) c.call.new.env c.call.result done c.self.inside.known c.self.invariant

pub returns-then-fits-clause-does : goal.returns-then-fits-clause-does
returns-then-fits-clause-does c =
    let place = ap native_at c.number-number.ensures ∙ at c.args.native in
    let fit = rw place at c.if-fits.ensures.test in
    let done = rw place at c.call.ensures in
    rw (← c.self.view_is, c.out_or.ensures) (called_gives (held c.self.inside) c.args.native c.args.args.now (sym fit) c.call.new.env c.call.result done)

pub returns-then-fits-clause-err : goal.returns-then-fits-clause-err
returns-then-fits-clause-err c =
    let place = ap native_at c.number-number.ensures ∙ at c.args.native in
    let fit = rw place at c.if-fits.ensures.test in
    let done = rw place at c.call.ensures in
    rw (← c.self.view_is, c.out_or.ensures) (called_err (held c.self.inside) c.args.native c.args.args.now (sym fit) c.call.new.env c.call.result done)

pub returns-then-fits-clause-links : goal.returns-then-fits-clause-links
returns-then-fits-clause-links c =
    let place = ap native_at c.number-number.ensures ∙ at c.args.native in
    let fit = rw place at c.if-fits.ensures.test in
    let done = rw place at c.call.ensures in
    rw (← c.self.view_is) (kept_links (held c.self.inside) c.args.native c.args.args.now (sym fit) c.call.new.env c.call.result done)

pub returns-then-fits-clause-grows : goal.returns-then-fits-clause-grows
returns-then-fits-clause-grows c =
    let place = ap native_at c.number-number.ensures ∙ at c.args.native in
    let fit = rw place at c.if-fits.ensures.test in
    let done = rw place at c.call.ensures in
    rw (← c.self.view_is) (called_grows (held c.self.inside) c.args.native c.args.args.now (sym fit) c.call.new.env c.call.result done)

pub returns-else-fits-clause-does : goal.returns-else-fits-clause-does
returns-else-fits-clause-does c =
    let place = ap native_at c.number-number.ensures ∙ at c.args.native in
    let fit = rw place at c.if-fits.ensures.test in
    rw (← c.self.view_is) (λ w. unfit (held c.self.inside) c.args.native c.args.args.now (sym fit))
