use Rattle.std.proofs.Common.{◌≡◌, List, sym, subst}
use Rattle.std.proofs.lemmas.Result.{err_from_is_err_and}
use Rattle.rn_text.specs.Texts.{Text}
use Rattle.rn_assemble.specs.Components.{Key, NamedModule, set_components}
use Rattle.rn_assemble.specs.Refusal.{Lacks}
use Rattle.rn_assemble.specs.inside.Checked.{AreExpanded}
use Rattle.rn_assemble.specs.inside.Methods.{CanCombine}
use Rattle.rn_assemble.specs.declared.reading.keys.KeyId.{KeyId}
use Rattle.rn_assemble.specs.inside.ReferenceOrder.{AreDefinedKeys, IsReferenceOrder}
use Rattle.rn_assemble.specs.inside.Views.{AreNamed, key_numbers, names_of}
use Rattle.rn_assemble.proofs.Answering.FirstRefusal.{lacking_first, uncombined_first, unsound_first}
use Rattle.rn_assemble.proofs.Answering.CheckedModules.{brought_within, can_be_joined, joined_or_first, passed_includes, passed_methods, passed_overrides}
use Rattle.rn_assemble.proofs.assembly.join_keys.Goals as goal
use Rattle.rn_assemble.proofs.assembly.join_keys.Goals.{In_ok-defined}

pub check_overrides-requires-clause-named : goal.check_overrides-requires-clause-named
check_overrides-requires-clause-named c =
    let (ms, named, kept, h) = c.requires.known in
    (ms, named, brought_within ms (names_of c.args.keys.now) c.args.rows c.args.segments.now h)

pub returns-in_err-check_overrides : goal.returns-in_err-check_overrides
returns-in_err-check_overrides c = λ ms named h.
    let q = c.in_err-check_overrides.field-0.0 in
    let p = err_from_is_err_and c.from_residual.result c.from_residual.ensures.1 in
    let passed = passed_includes ms (names_of c.args.keys.now) c.args.rows c.args.segments.now h in
    rw (p.1, p.2) (lacking_first ms passed q (c.in_err-check_overrides.ensures ms (set_components ms) named h.in_order h.rows_are h.segments_are h.lacks))

pub returns-in_err-check_methods : goal.returns-in_err-check_methods
returns-in_err-check_methods c = λ ms named h.
    let q = c.in_err-check_methods.field-0.0 in
    let p = err_from_is_err_and c.from_residual-in_err-check_methods.result c.from_residual-in_err-check_methods.ensures.1 in
    let never = c.in_ok-check_overrides.ensures ms (set_components ms) named h.in_order h.rows_are h.segments_are h.lacks in
    let passed = passed_overrides ms (names_of c.args.keys.now) c.args.rows c.args.segments.now h never in
    rw (p.1, p.2) (uncombined_first ms passed q (c.in_err-check_methods.ensures ms (set_components ms) h.in_order h.rows_are h.segments_are))

-- what was found of the modules up to their defined keys
record AreChecked (c : In_ok-defined) (ms : List NamedModule) : Type 0 where
  never : (y : Text) (k : Key) → ¬ Lacks ms y k
  can : CanCombine (set_components ms)
  defined : (keys : List KeyId) → keys ≡ c.in_ok-defined.defined.items → AreDefinedKeys (names_of c.args.keys.now) (set_components ms) (key_numbers keys)

checked : (c : In_ok-defined) (ms : List NamedModule) → AreNamed ms c.args.modules.now → AreExpanded ms (names_of c.args.keys.now) c.args.rows c.args.segments.now → AreChecked c ms
checked c ms named h = record {
  never = c.in_ok-check_overrides.ensures ms (set_components ms) named h.in_order h.rows_are h.segments_are h.lacks;
  can = c.in_ok-check_methods.ensures ms (set_components ms) h.in_order h.rows_are h.segments_are;
  defined = λ keys e. subst (λ (ks : List KeyId). AreDefinedKeys (names_of c.args.keys.now) (set_components ms) (key_numbers ks)) (sym e) (c.in_ok-defined.ensures ms (names_of c.args.keys.now) (set_components ms) h.in_order h.rows_are h.segments_are);
}

pub returns-in_err-reached : goal.returns-in_err-reached
returns-in_err-reached c = λ ms named h.
    let here : In_ok-defined = assumption in
    let q = c.in_err-reached.field-0.0 in
    let p = err_from_is_err_and c.from_residual-in_err-reached.result c.from_residual-in_err-reached.ensures.1 in
    let found = checked here ms named h in
    let passed = passed_methods ms (names_of c.args.keys.now) c.args.rows c.args.segments.now h found.never found.can in
    rw (p.1, p.2) (unsound_first ms passed q (c.in_err-reached.ensures ms (set_components ms) h.in_order h.rows_are h.segments_are (found.defined c.deref.result.now c.deref.ensures.value)))

pub joined_grammar-requires : goal.joined_grammar-requires
joined_grammar-requires c =
    let here : In_ok-defined = assumption in
    let (ms, named, kept, h) = c.requires.known in
    let names = names_of c.args.keys.now in
    let cs = set_components ms in
    let found = checked here ms named h in
    let sound = c.in_ok-reached.ensures ms cs h.in_order h.rows_are h.segments_are (found.defined c.deref.result.now c.deref.ensures.value) in
    let reached = subst (λ (ks : List KeyId). IsReferenceOrder names cs (key_numbers ks)) (sym c.deref-3.ensures.value) sound.1 in
    let order = c.in_ok-order.ensures cs h.in_order (found.defined c.deref-2.result.now c.deref-2.ensures.value) reached in
    (ms, cs, h.in_order, h.rows_are, h.segments_are, can_be_joined ms names c.args.rows c.args.segments.now h found.never found.can sound.0 kept (key_numbers c.deref-4.result.now) c.in_ok-order.order.items (found.defined c.deref-4.result.now c.deref-4.ensures.value) order)

pub returns : goal.returns
returns c = λ ms named h.
    let here : In_ok-defined = assumption in
    let cs = set_components ms in
    let found = checked here ms named h in
    let sound = c.in_ok-reached.ensures ms cs h.in_order h.rows_are h.segments_are (found.defined c.deref.result.now c.deref.ensures.value) in
    joined_or_first ms (names_of c.args.keys.now) c.args.rows c.args.segments.now h found.never found.can sound.0 c.joined_grammar.result
    (c.joined_grammar.ensures ms cs h.in_order h.rows_are h.segments_are (found.defined c.deref-4.result.now c.deref-4.ensures.value) found.can.start)
