-- What the bindings of a module stand for (compact syntax, section 2: namespace and datatypes declarations).
use Rattle.std.specs.Prelude.{◌≡◌, List}
use Rattle.std.specs.Rc.{rc_str_bytes}
use Rattle.rn_text.specs.Texts.{Text}
use Rattle.rn_syntax.specs.BindingDeclarations.{bound}
use Rattle.rn_syntax.specs.Tree.{Declaration}
use Rattle.rn_assemble.specs.Resolve.{default_of, namespace_of}
use Rattle.rn_assemble.specs.declared.resolving.declared_uris.DeclaredUris.{DeclaredUris}
use Rattle.rn_assemble.specs.declared.resolving.context.Context.{Context}

-- what is bound is what the declarations bind
pub BindsAs : DeclaredUris → List Declaration → Type 0
BindsAs b ds = bound b.numbers ≡ ds

-- what is bound, as an equation, which is written out only where it is needed
pub binds_are : (b : DeclaredUris) (ds : List Declaration) → BindsAs b ds → bound b.numbers ≡ ds
unfolding BindsAs
binds_are b ds h = h

pub are_bound : (b : DeclaredUris) (ds : List Declaration) → bound b.numbers ≡ ds → BindsAs b ds
unfolding BindsAs
are_bound b ds h = h

-- what holds of the inherited namespace and of all declarations that the context's bindings stand for
abbrev pub InContext : Context → (Text → List Declaration → Type 0) → Type 0
InContext s P = (ds : List Declaration) → BindsAs s.bindings.now ds → P (rc_str_bytes s.inherited.now) ds

-- under both inherited namespaces the declarations make the same default namespace, and the same ones of prefixes
pub record AgreeUnder (ds : List Declaration) (u v : Text) : Type 0 where
  pub default : default_of u ds ≡ default_of v ds
  pub prefixes : (p : Text) → namespace_of u ds p ≡ namespace_of v ds p
