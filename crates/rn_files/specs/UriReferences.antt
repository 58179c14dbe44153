-- What references in files stand for (RFC 3986, 5.2; XLink 1.0, 5.4; RELAX NG 2001, 4.5).
use Rattle.std.specs.Prelude.{ℕ, ◌==◌, not, List, length, Option, Some, None, if◌then◌else◌}
use Rattle.std.specs.List.{list_any}
use Rattle.rn_files.specs.Escapes.{escaped_reference, has_escapes}
use Rattle.rn_files.specs.Uris.{parts_of, recomposed_uri, target}
use Rattle.rn_files.specs.declared.references.uri_references.ReferenceFault.{ReferenceFault}
use Rattle.rn_files.specs.declared.references.uri_references.ReferenceFault.TheVariants.{Empty, Fragment, Query, Escape}

-- what is wrong with a reference, the first of these: it is empty, has a fragment, has a query, or has a `%` that begins no escape
abbrev pub fault_of : List ℕ → Option ReferenceFault
fault_of reference =
    if length reference == 0 then Some Empty
    else if list_any (λ b. b == 35) reference then Some Fragment
    else if list_any (λ b. b == 63) reference then Some Query
    else if not (has_escapes reference) then Some Escape
    else None

-- the URI that a reference without fault stands for in a file with the URI `base`
abbrev pub resolved_uri : List ℕ → List ℕ → List ℕ
resolved_uri base reference = recomposed_uri (target (parts_of base) (parts_of (escaped_reference reference)))
