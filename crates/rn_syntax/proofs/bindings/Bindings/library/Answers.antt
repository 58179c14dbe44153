-- The number is that of the first declaration that binds the prefix, so it is one of a declaration, of that URI.
use Rattle.std.proofs.Common.{◌∙◌}
use Rattle.rn_syntax.specs.Places.{binds_library}
use Rattle.rn_syntax.specs.BindingDeclarations.{bound}
use Rattle.rn_syntax.proofs.BindingDeclarations.{library_uri, number_is_of, number_is_within}
use Rattle.rn_syntax.proofs.bindings.Bindings.library.Goals as goal

pub returns-clause-number : goal.returns-clause-number
returns-clause-number c = c.copied.ensures ∙ c.get.ensures.value ∙ c.args.self.now.libraries_are c.args.prefix.now

pub returns-clause-within : goal.returns-clause-within
returns-clause-within c = number_is_within (binds_library c.args.prefix.now) (bound c.args.self.now) _ (returns-clause-number c)

pub returns-clause-uri : goal.returns-clause-uri
returns-clause-uri c = number_is_of (binds_library c.args.prefix.now) (bound c.args.self.now) _ _ (library_uri (bound c.args.self.now) c.args.prefix.now) (returns-clause-number c)
