use Rattle.std.proofs.Common.{◌≡◌, Some, refl, ap, ◌∙◌, subst}
use Rattle.std.specs.Prelude.{not}
use Rattle.rn_xml.specs.declared.document.XmlName.{XmlName}
use Rattle.rn_xml.specs.inside.KnownTexts.{index_in}
use Rattle.rn_xml.specs.inside.TagTables.{attribute_index}
use Rattle.std.proofs.Common.{None, inl, inr}
use Rattle.std.proofs.lemmas.Result.{err_from_is_err_and}
use Rattle.rn_xml.proofs.tags.TagReader.name_attribute.Goals as goal

pub returns-then-branch-clause-named : goal.returns-then-branch-clause-named
returns-then-branch-clause-named c = record {
  keeps = record { rest = c.name_attribute.ensures.rest; indices = c.name_attribute.ensures.uris; scopes = refl; opened = refl; len = refl; locals = c.in_ok-local.ensures.same };
  row = c.in-Some.ensures.0;
  uri = c.in_ok-uri.uri;
  local = c.in_ok-local.local;
  there = c.in-Some.ensures.1;
  means = subst (λ (n : XmlName). attribute_index c.args.self.now n.prefix.now ≡ Some c.in_ok-uri.uri) c.in-Some.ensures.2 c.in_ok-uri.ensures.is;
  within = c.in_ok-uri.ensures.ok;
  items = c.name_attribute.ensures.named c.in-Some.ensures.0 c.in-Some.ensures.1;
  known = subst (λ (n : XmlName). index_in c.index_of.new.self n.local.now ≡ Some c.in_ok-local.local) c.in-Some.ensures.2 c.in_ok-local.ensures.found;
  fresh = c.in_ok-insert_pair.ensures.new ∙ ap not c.if-branch.true;
  seen_now = c.in_ok-insert_pair.ensures.there;
  seen_still = c.in_ok-insert_pair.ensures.still;
  seen_only = c.in_ok-insert_pair.ensures.only;
}

pub returns-in_err-uri-clause-refused : goal.returns-in_err-uri-clause-refused
returns-in_err-uri-clause-refused c =
    let p = err_from_is_err_and c.from_residual.result c.from_residual.ensures.1 in
    rw (p.1, p.2) (λ own. record {
      row = c.in-Some.ensures.0;
      there = c.in-Some.ensures.1;
      why = inl (subst (λ (n : XmlName). attribute_index c.args.self.now n.prefix.now ≡ None) c.in-Some.ensures.2 c.in_err-uri.ensures.none);
    })

pub returns-else-branch-clause-refused : goal.returns-else-branch-clause-refused
returns-else-branch-clause-refused c = λ own. record {
  row = c.in-Some.ensures.0;
  there = c.in-Some.ensures.1;
  why = inr (record {
    uri = c.in_ok-uri.uri;
    local = c.in_ok-local.local;
    means = subst (λ (n : XmlName). attribute_index c.args.self.now n.prefix.now ≡ Some c.in_ok-uri.uri) c.in-Some.ensures.2 c.in_ok-uri.ensures.is;
    known = subst (λ (n : XmlName). index_in c.index_of.new.self n.local.now ≡ Some c.in_ok-local.local) c.in-Some.ensures.2 c.in_ok-local.ensures.found;
    locals = c.in_ok-local.ensures.same;
    has = c.in_ok-insert_pair.ensures.new ∙ ap not c.if-branch.false;
  });
}
