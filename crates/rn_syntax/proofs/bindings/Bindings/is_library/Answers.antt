-- The declaration of the number gives the library of the prefix.
use Rattle.std.proofs.Common.{◌≡◌, ap, ◌∙◌, sym, false, Some}
use Rattle.std.specs.Prelude.{bytes_eq, codes, if◌then◌else◌}
use Rattle.rn_syntax.specs.Places as places
use Rattle.rn_syntax.specs.View.{declaration_view}
use Rattle.rn_syntax.specs.BindingDeclarations.{bound}
use Rattle.rn_syntax.specs.inside.Numbered.{library_text}
use Rattle.rn_syntax.proofs.BindingDeclarations.{at_map, library_found}
use Rattle.rn_syntax.proofs.bindings.Bindings.is_library.Goals as goal

pub returns : goal.returns
returns c =
    let ds = bound c.args.self.now in
    let p = c.args.prefix.now in
    let x = c.index-declarations-number.result in
    let other : bytes_eq p (codes "xsd") ≡ false = sym c.eq.ensures ∙ c.if-eq.false in
    let found : places.declared_library ds p ≡ library_text (declaration_view x)
    = library_found ds p c.in-Some.number (declaration_view x) (sym c.library.ensures.number ∙ c.in-Some.is)
    ∙ ap library_text (at_map declaration_view c.args.self.now.declarations.now c.in-Some.number x c.index-declarations-number.is) in
    let library : places.library_of ds p ≡ library_text (declaration_view x) = ap (λ b. if b then Some places.xsd_uri else places.declared_library ds p) other ∙ found in
    c.is_library.ensures ∙ ap (λ o. places.is_library o c.args.uri.now) (sym library)
