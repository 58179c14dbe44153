-- The number is that of the first default declaration, so it is one of a declaration, of that URI.
use Rattle.rn_syntax.specs.Places.{is_default}
use Rattle.rn_syntax.specs.BindingDeclarations.{bound}
use Rattle.rn_syntax.proofs.BindingDeclarations.{default_uri, number_is_of, number_is_within}
use Rattle.rn_syntax.proofs.bindings.Bindings.default.Goals as goal

pub returns-clause-within : goal.returns-clause-within
returns-clause-within c = number_is_within is_default (bound c.args.self.now) _ c.args.self.now.default_is

pub returns-clause-uri : goal.returns-clause-uri
returns-clause-uri c = number_is_of is_default (bound c.args.self.now) _ _ (default_uri (bound c.args.self.now)) c.args.self.now.default_is
