-- A document that a message changes, from its parts.
use Rattle.std.proofs.Common.{◌≡◌, ℕ, List, Option, ap, ◌∙◌}
use Rattle.std.specs.Prelude.{ℤ}
use Rattle.serde_json.specs.Data.{Data}
use Rattle.bl_lsp.specs.Documents.{changed_doc, changed_text, doc_from, uri_in, version_in}

pub changed_is : (message : Data) (uri : Option (List ℕ)) (version : Option ℤ) (text : Option (List ℕ)) → uri ≡ uri_in message →
    version ≡ version_in message → text ≡ changed_text message → doc_from uri version text ≡ changed_doc message
changed_is message uri version text same_uri same_version same_text =
    ap (λ u. doc_from u version text) same_uri
    ∙ ap (λ v. doc_from (uri_in message) v text) same_version
    ∙ ap (λ t. doc_from (uri_in message) (version_in message) t) same_text
