-- Kinds of forms to which references stay.
use Rattle.std.specs.Prelude.{◌≡◌, List, All}
use Rattle.rn_simplify.specs.declared.form_kind.FormKind.{FormKind}

-- none of them is that of notAllowed or empty
abbrev pub AllStay : List FormKind → Type 0
AllStay = All (λ k. k ≡ FormKind.Other)
