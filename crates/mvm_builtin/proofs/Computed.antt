-- What is computed of every row of the table, one after the other.
use Rattle.std.proofs.Common.{◌≡◌, refl, arith}
use Rattle.std.specs.Prelude.{length}
use Rattle.mvm_builtin.proofs.Found.{EachRow}
use Rattle.std.specs.List.{AllByRecursion}
use Rattle.mvm_builtin.specs.Index.{index}
use Rattle.mvm_builtin.proofs.Halving.{Rising}
use Rattle.mvm_builtin.proofs.Indexed.{IsIndexed, RowHasEntry}
use Rattle.mvm_builtin.specs.Natives.{number, signature}
use Rattle.mvm_builtin.proofs.Order.{AllKept}
use Rattle.mvm_builtin.proofs.Numbers.{MethodsCalled}
use Rattle.mvm_builtin.specs.declared.table.TheConstants.{CLASSES}
use Rattle.mvm_base.specs.Descriptor.{field_of, method_of, base_in, slots_of}
use Rattle.mvm_base.specs.ModifiedUtf8.{spelled}
use Rattle.mvm_base.specs.Place.{run}
use Rattle.mvm_layout.specs.Text.{decoded_text}
use Rattle.mvm_layout.specs.Entries.{text, constant, reference, tagged, item, pool}
use Rattle.mvm_layout.specs.Layout.{attribute, attributes, member, members, interfaces, magic, major, body, layout, laid, row, rows as exception_rows, instructions, code, code_laid, code_in}
use Rattle.mvm_shape.specs.Shape.{linked, has_superclass, are_interfaces, header, rules, parts_of, shaped}
use Rattle.mvm_shape.specs.Members.{is_unqualified, is_method_name, field_attribute, named_attribute, method_attribute, is_sound_field, tested_field, field_rule, is_sound_method, tested_method, method_rule, field_part, method_part}
use Rattle.mvm_classfile.specs.Reading.{reading}
use Rattle.mvm_classfile.specs.Writing.{written_item, name_index, written_code, names_in, written_member, written_pool, written_members, written, lists_fit, fits, rebuilt}
use Rattle.mvm_builtin.specs.Table.{rows}
use Rattle.mvm_builtin.specs.Classes.{with_code, made, IsReread}

pub all_reread : EachRow IsReread rows
unfolding rebuilt fits lists_fit written written_members written_pool written_member names_in written_code name_index written_item reading shaped linked has_superclass are_interfaces header rules parts_of is_unqualified is_method_name field_attribute named_attribute method_attribute is_sound_field tested_field field_rule is_sound_method tested_method method_rule field_part method_part attribute attributes member members interfaces magic major body layout laid row exception_rows instructions code code_laid code_in text constant reference tagged item pool decoded_text run spelled field_of method_of base_in slots_of rows made with_code
all_reread = (refl, (refl, (refl, (refl, (refl, (refl, (refl, (refl, (refl, (refl, (refl, (refl, (refl, (refl, (refl, (refl, (refl, (refl, (refl, (refl, (refl, (refl, (refl, (refl, (refl, (refl, (refl, (refl, (refl, (refl, (refl, (refl, (refl, (refl, (refl, (refl, (refl, (refl, (refl, (refl, (refl, (refl, (refl, (refl, (refl, (refl, (refl, (refl, tt))))))))))))))))))))))))))))))))))))))))))))))))

pub counted : length rows ≡ CLASSES
unfolding rows
counted = refl

pub all_kept : AllKept rows 0 rows
unfolding rows made with_code
all_kept = ((refl, refl, refl, tt, tt), ((refl, refl, refl, (refl, refl), tt), ((refl, refl, refl, (refl, refl), tt), ((refl, refl, refl, (refl, refl), tt), ((refl, refl, refl, (refl, refl), tt), ((refl, refl, refl, (refl, refl), tt), ((refl, refl, refl, (refl, refl), tt), ((refl, refl, refl, (refl, refl), tt), ((refl, refl, refl, (refl, refl), ((refl, refl), tt)), ((refl, refl, refl, (refl, refl), tt), ((refl, refl, refl, (refl, refl), tt), ((refl, refl, refl, (refl, refl), tt), ((refl, refl, refl, (refl, refl), tt), ((refl, refl, refl, (refl, refl), tt), ((refl, refl, refl, (refl, refl), tt), ((refl, refl, refl, (refl, refl), tt), ((refl, refl, refl, (refl, refl), tt), ((refl, refl, refl, (refl, refl), tt), ((refl, refl, refl, (refl, refl), tt), ((refl, refl, refl, (refl, refl), tt), ((refl, refl, refl, (refl, refl), tt), ((refl, refl, refl, (refl, refl), tt), ((refl, refl, refl, (refl, refl), tt), ((refl, refl, refl, (refl, refl), tt), ((refl, refl, refl, (refl, refl), tt), ((refl, refl, refl, (refl, refl), tt), ((refl, refl, refl, (refl, refl), tt), ((refl, refl, refl, (refl, refl), tt), ((refl, refl, refl, (refl, refl), tt), ((refl, refl, refl, (refl, refl), tt), ((refl, refl, refl, (refl, refl), tt), ((refl, refl, refl, (refl, refl), tt), ((refl, refl, refl, (refl, refl), tt), ((refl, refl, refl, (refl, refl), tt), ((refl, refl, refl, (refl, refl), tt), ((refl, refl, refl, (refl, refl), tt), ((refl, refl, refl, (refl, refl), tt), ((refl, refl, refl, (refl, refl), tt), ((refl, refl, refl, (refl, refl), tt), ((refl, refl, refl, (refl, refl), tt), ((refl, refl, refl, (refl, refl), tt), ((refl, refl, refl, (refl, refl), tt), ((refl, refl, refl, (refl, refl), tt), ((refl, refl, refl, (refl, refl), tt), ((refl, refl, refl, (refl, refl), tt), ((refl, refl, refl, (refl, refl), tt), ((refl, refl, refl, (refl, refl), tt), ((refl, refl, refl, (refl, refl), tt), tt))))))))))))))))))))))))))))))))))))))))))))))))

pub all_called : EachRow MethodsCalled rows
unfolding rows made with_code number signature
all_called = (((refl, refl), ((refl, refl), ((refl, refl), ((refl, refl), ((refl, refl), tt))))), (((refl, refl), ((refl, refl), ((refl, refl), ((refl, refl), ((refl, refl), ((refl, refl), ((refl, refl), ((refl, refl), ((refl, refl), ((refl, refl), tt)))))))))), (((refl, refl), ((refl, refl), ((refl, refl), ((refl, refl), ((refl, refl), ((refl, refl), ((refl, refl), ((refl, refl), tt)))))))), (((refl, refl), tt), (((refl, refl), ((refl, refl), ((refl, refl), ((refl, refl), ((refl, refl), ((refl, refl), ((refl, refl), ((refl, refl), ((refl, refl), ((refl, refl), ((refl, refl), tt))))))))))), (((refl, refl), tt), (tt, ((refl, tt), (((refl, refl), ((refl, refl), ((refl, refl), (refl, ((refl, refl), ((refl, refl), tt)))))), (((refl, refl), tt), (((refl, refl), ((refl, refl), ((refl, refl), tt))), (((refl, refl), ((refl, refl), ((refl, refl), ((refl, refl), ((refl, refl), ((refl, refl), tt)))))), (((refl, refl), ((refl, refl), ((refl, refl), ((refl, refl), ((refl, refl), tt))))), (((refl, refl), ((refl, refl), ((refl, refl), tt))), (((refl, refl), ((refl, refl), tt)), (((refl, refl), ((refl, refl), ((refl, refl), tt))), (((refl, refl), ((refl, refl), tt)), (((refl, refl), ((refl, refl), tt)), (((refl, refl), ((refl, refl), tt)), (((refl, refl), ((refl, refl), tt)), (((refl, refl), ((refl, refl), tt)), (((refl, refl), ((refl, refl), tt)), (((refl, refl), ((refl, refl), tt)), (((refl, refl), ((refl, refl), tt)), (((refl, refl), ((refl, refl), tt)), (((refl, refl), ((refl, refl), tt)), (((refl, refl), ((refl, refl), tt)), (((refl, refl), ((refl, refl), tt)), (((refl, refl), ((refl, refl), tt)), (((refl, refl), ((refl, refl), tt)), (((refl, refl), ((refl, refl), ((refl, refl), tt))), (((refl, refl), ((refl, refl), tt)), (((refl, refl), ((refl, refl), tt)), (((refl, refl), ((refl, refl), tt)), (((refl, refl), ((refl, refl), tt)), (((refl, refl), ((refl, refl), tt)), (((refl, refl), ((refl, refl), tt)), (((refl, refl), ((refl, refl), tt)), (((refl, refl), ((refl, refl), tt)), (((refl, refl), ((refl, refl), tt)), (((refl, refl), ((refl, refl), tt)), (((refl, refl), ((refl, refl), tt)), (((refl, refl), ((refl, refl), tt)), (((refl, refl), ((refl, refl), tt)), (((refl, refl), ((refl, refl), tt)), (((refl, refl), ((refl, refl), tt)), (((refl, refl), ((refl, refl), tt)), (((refl, refl), ((refl, refl), tt)), tt))))))))))))))))))))))))))))))))))))))))))))))))

pub rising : Rising index
rising = (refl, (refl, (refl, (refl, (refl, (refl, (refl, (refl, (refl, (refl, (refl, (refl, (refl, (refl, (refl, (refl, (refl, (refl, (refl, (refl, (refl, (refl, (refl, (refl, (refl, (refl, (refl, (refl, (refl, (refl, (refl, (refl, (refl, (refl, (refl, (refl, (refl, (refl, (refl, (refl, (refl, (refl, (refl, (refl, (refl, (refl, (refl, tt)))))))))))))))))))))))))))))))))))))))))))))))

pub all_indexed : AllByRecursion IsIndexed index
unfolding rows
all_indexed = (refl, (refl, (refl, (refl, (refl, (refl, (refl, (refl, (refl, (refl, (refl, (refl, (refl, (refl, (refl, (refl, (refl, (refl, (refl, (refl, (refl, (refl, (refl, (refl, (refl, (refl, (refl, (refl, (refl, (refl, (refl, (refl, (refl, (refl, (refl, (refl, (refl, (refl, (refl, (refl, (refl, (refl, (refl, (refl, (refl, (refl, (refl, (refl, tt))))))))))))))))))))))))))))))))))))))))))))))))

pub each_has_entry : EachRow RowHasEntry rows
unfolding rows
each_has_entry = ((29, omega arith, λ d. refl), ((34, omega arith, λ d. refl), ((35, omega arith, λ d. refl), ((37, omega arith, λ d. refl), ((0, omega arith, λ d. refl), ((20, omega arith, λ d. refl), ((5, omega arith, λ d. refl), ((31, omega arith, λ d. refl), ((38, omega arith, λ d. refl), ((47, omega arith, λ d. refl), ((45, omega arith, λ d. refl), ((46, omega arith, λ d. refl), ((39, omega arith, λ d. refl), ((10, omega arith, λ d. refl), ((21, omega arith, λ d. refl), ((32, omega arith, λ d. refl), ((2, omega arith, λ d. refl), ((4, omega arith, λ d. refl), ((6, omega arith, λ d. refl), ((13, omega arith, λ d. refl), ((28, omega arith, λ d. refl), ((16, omega arith, λ d. refl), ((14, omega arith, λ d. refl), ((15, omega arith, λ d. refl), ((18, omega arith, λ d. refl), ((3, omega arith, λ d. refl), ((36, omega arith, λ d. refl), ((23, omega arith, λ d. refl), ((27, omega arith, λ d. refl), ((44, omega arith, λ d. refl), ((9, omega arith, λ d. refl), ((22, omega arith, λ d. refl), ((7, omega arith, λ d. refl), ((8, omega arith, λ d. refl), ((41, omega arith, λ d. refl), ((11, omega arith, λ d. refl), ((17, omega arith, λ d. refl), ((1, omega arith, λ d. refl), ((12, omega arith, λ d. refl), ((19, omega arith, λ d. refl), ((25, omega arith, λ d. refl), ((26, omega arith, λ d. refl), ((24, omega arith, λ d. refl), ((40, omega arith, λ d. refl), ((42, omega arith, λ d. refl), ((43, omega arith, λ d. refl), ((30, omega arith, λ d. refl), ((33, omega arith, λ d. refl), tt))))))))))))))))))))))))))))))))))))))))))))))))
