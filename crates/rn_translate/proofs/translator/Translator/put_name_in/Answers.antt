-- A name has a prefix where its namespace isn't that of names without one.
use Rattle.std.proofs.Common.{◌∷◌, [], sym, ap, ◌∙◌, Some}
use Rattle.std.specs.Prelude.{Option}
use Rattle.std.specs.Option.{option_map}
use Rattle.rn_translate.specs.Terms.{Namespace, Term, prefixed}
use Rattle.rn_translate.specs.Layouts.{name_term}
use Rattle.rn_translate.proofs.NamesInScope.{name_other}
use Rattle.rn_translate.proofs.UriMeanings.{same_meant}
use Rattle.rn_translate.proofs.translator.Translator.put_name_in.Goals as goal

pub returns : goal.returns
returns c = λ n m table is isn.
    let uris = c.args.self.now.uris in
    let local = c.args.local.now in
    let other = same_meant uris table c.args.namespace c.args.bare n m is isn ∙ sym c.is.ensures ∙ c.if-is.false in
    c.put.ensures (name_term m (n, local) ∷ [])
    (ap (λ (o : Option Namespace). option_map (λ x. prefixed x local) o ∷ []) is ∙ ap (λ (t : Term). Some t ∷ []) (sym (name_other m n local other)))
