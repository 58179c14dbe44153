-- The name is split, and its namespace looked up.
use Rattle.std.proofs.Common.{◌≡◌, ◌∷◌, [], ap, ◌∙◌, subst, Bor}
use Rattle.std.specs.Prelude.{OnOk}
use Rattle.std.specs.Option.{option_map_or}
use Rattle.rn_text.specs.Texts.{Text}
use Rattle.rn_translate.specs.Terms.{Namespace, uri}
use Rattle.rn_translate.specs.SchemaElements.{parted, prefix_and_local, prefix_uri, qualified}
use Rattle.rn_translate.specs.Layouts.{name_term}
use Rattle.rn_translate.specs.inside.Meanings.{Adds}
use Rattle.rn_translate.proofs.NamesInScope.{parted_so}
use Rattle.rn_translate.proofs.translator.Translator.put_name.Goals as goal

pub returns : goal.returns
returns c = λ scope n m is meant bare.
    let prefix = c.split_name.result.0 in
    let local = c.split_name.result.1.now in
    let text = c.trimmed.result.now in
    let here : Namespace = option_map_or (λ (x : Bor Text). uri (prefix_uri scope x.now)) prefix n in
    let whole : ◌≡◌ {A = Namespace × Text} (here, local) (qualified scope n c.args.text.now) =
    parted_so scope n text local prefix c.split_name.ensures.parts c.split_name.ensures.whole ∙ ap (λ (t : Text). parted scope n t (prefix_and_local t)) c.trimmed.ensures in
    subst (λ (q : Namespace × Text). OnOk c.put_name_in.result (Adds c.args.self.now c.put_name_in.new.self (name_term m q ∷ []))) whole
    (c.put_name_in.ensures here m is.knows.table (c.name_namespace-namespace.ensures scope n is meant) bare)
