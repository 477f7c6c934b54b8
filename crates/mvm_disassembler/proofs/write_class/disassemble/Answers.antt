use Rattle.std.proofs.Common.{◌≡◌, ◌++◌, List, ℕ, ap, ◌∙◌}
use Rattle.std.specs.Prelude.{flat_map}
use Rattle.mvm_layout.specs.declared.parts.Member.{Member}
use Rattle.mvm_listing.specs.Assembly.{class_of}
use Rattle.mvm_listing.proofs.Whole.{class_again}
use Rattle.mvm_disassembler.specs.Steps.{field_text, method_text, head_text}
use Rattle.mvm_disassembler.proofs.Written.{all_written}
use Rattle.mvm_disassembler.proofs.write_class.disassemble.Goals as goal

pub returns-clause-exact : goal.returns-clause-exact
returns-clause-exact c =
    let p = c.parts-parts.result.now in
    let head : c.push_head.new.out ≡ head_text p = c.in_ok-push_head.ensures ∙ ap (λ (t : List ℕ). t ++ head_text p) c.new-out.ensures in
    let fields : c.push_fields.new.out ≡ c.push_head.new.out ++ flat_map (field_text p.pool) p.fields = c.in_ok-push_fields.ensures ∙ ap (λ (ms : List Member). c.push_head.new.out ++ flat_map (field_text p.pool) ms) c.as_slice.ensures in
    let methods : c.push_methods.new.out ≡ c.push_fields.new.out ++ flat_map (method_text p.pool) p.methods = c.in_ok-push_methods.ensures ∙ ap (λ (ms : List Member). c.push_fields.new.out ++ flat_map (method_text p.pool) ms) c.as_slice-2.ensures in
    all_written p c.args.class.now c.push_head.new.out c.push_fields.new.out c.push_methods.new.out head fields methods c.parts-parts.ensures.value

pub returns-clause-again : goal.returns-clause-again
returns-clause-again c = ap class_of (returns-clause-exact c) ∙ class_again c.args.class.now c.parts-parts.ensures.keeps
