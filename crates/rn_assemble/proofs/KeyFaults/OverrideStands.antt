-- The least override of what isn't there, as the refusal that stands for the modules.
use Rattle.std.proofs.Common.{◌≡◌, ℕ, ◌<◌, List, [], length, get_or, Option, Some, None, sym, ap, ◌∙◌, subst}
use Rattle.std.specs.Prelude.{◌↔◌}
use Rattle.std.proofs.lemmas.List.{get_or-map, length-map}
use Rattle.rn_text.specs.Texts.{Text, text_cmp}
use Rattle.rn_assemble.specs.Components.{Key, NamedModule}
use Rattle.rn_assemble.specs.Least.{key_cmp}
use Rattle.rn_assemble.specs.Refusal.{Lacks, StandsFor, override}
use Rattle.rn_assemble.specs.declared.by_key.checks.Lack.{Lack}
use Rattle.rn_assemble.specs.declared.reading.named_modules.NamedModule as code_module
use Rattle.rn_assemble.specs.inside.ContentsOf.{name_at}
use Rattle.rn_assemble.specs.inside.Keyed.{key_at}
use Rattle.rn_assemble.specs.inside.Lacking.{IsLeastLack}
use Rattle.rn_assemble.specs.inside.Views.{AreNamed}
use Rattle.rn_assemble.proofs.Renaming.AlikeFacts.{least_alike, some_alike}

-- modules that are named alike are as many
pub same_length : (ms : List NamedModule) (modules : List code_module.NamedModule) → AreNamed ms modules → length ms ≡ length modules
same_length ms modules named = sym (length-map ms (λ (m : NamedModule). m.name)) ∙ ap length named ∙ length-map modules (λ (m : code_module.NamedModule). m.name.now)

-- the name of a module, by its place
pub name_named_at : (ms : List NamedModule) (modules : List code_module.NamedModule) → AreNamed ms modules → (i : ℕ) (d : code_module.NamedModule) → i < length modules → (get_or modules i d).name.now ≡ name_at ms i
name_named_at ms modules named i d l =
    sym (get_or-map (λ (m : code_module.NamedModule). m.name.now) modules i d [] l) ∙ sym (ap (λ ns. get_or ns i []) named)

-- what lacks the same keys has the same least lack
pub lack_alike : (modules : List NamedModule) (names : List Text) (P Q : Text → Key → Type 0) → ((y : Text) (k : Key) → P y k ↔ Q y k) → (o : Option Lack) → IsLeastLack modules names P o → IsLeastLack modules names Q o
lack_alike modules names P Q alike None h = λ y k q. h y k ((alike y k).1 q)
lack_alike modules names P Q alike (Some l) h = (
  h.0,
  h.1,
  (least_alike text_cmp (λ y. (k : Key) × P y k) (λ y. (k : Key) × Q y k) (λ y. some_alike (alike y)) (name_at modules l.«module».0)).0 h.2,
  (least_alike key_cmp (P (name_at modules l.«module».0)) (Q (name_at modules l.«module».0)) (alike (name_at modules l.«module».0)) (key_at names l.key.0)).0 h.3,
)

pub override_stands : (modules : List NamedModule) (names : List Text) (l : Lack) (x : Text) (k : Key) → IsLeastLack modules names (Lacks modules) (Some l) → x ≡ name_at modules l.«module».0 → k ≡ key_at names l.key.0 → StandsFor modules (override x k)
override_stands modules names l x k h ex ek =
    subst (λ (y : Text). StandsFor modules (override y k)) (sym ex) (subst (λ (j : Key). StandsFor modules (override (name_at modules l.«module».0) j)) (sym ek) (h.2, h.3))
