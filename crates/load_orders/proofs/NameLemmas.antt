-- Indexes of names.
use Rattle.std.proofs.Common.{◌≡◌, ℕ, ◌<◌, Bool, true, false, List, length, map, slice_get, get_or, string_bytes}
use Rattle.std.proofs.Common.{String, Global, Some, MatchBool, ap, sym, ◌∙◌, arith}
use Rattle.std.proofs.lemmas.Option.{slice_get-get_or, slice_get-map, slice_get_within}
use Rattle.std.specs.Option.{option_map}
use Rattle.std.proofs.lemmas.List.{length-map}
use Rattle.load_orders.specs.Asking.{IsNoName}

-- the text at an index
text_at : (names : List (String Global)) (index : ℕ) (read : String Global) → index < length names
    → read ≡ get_or names index read → slice_get (map string_bytes names) index ≡ Some (string_bytes read)
text_at names index read small is =
    slice_get-map string_bytes names index ∙ ap (λ o. option_map string_bytes o) (slice_get-get_or names index read small ∙ ap (λ x. Some x) (sym is))

pub named : (names : List (String Global)) (index : ℕ) (read : String Global) (name : List ℕ) (b : Bool) → index < length names → read ≡ get_or names index read
    → MatchBool b (string_bytes read ≡ name) (¬ (string_bytes read ≡ name))
    → MatchBool b (slice_get (map string_bytes names) index ≡ Some name) (¬ (slice_get (map string_bytes names) index ≡ Some name))
named names index read name true small is same = text_at names index read small is ∙ ap (λ x. Some x) same
named names index read name false small is other = λ there. let both = sym (text_at names index read small is) ∙ there in other (cc)

-- a name that is at no index within
pub no_name : (names : List (String Global)) (name : List ℕ)
    → ((j : ℕ) → j < length names → ¬ (slice_get (map string_bytes names) j ≡ Some name)) → IsNoName (map string_bytes names) name
no_name names name none index there =
    let n = slice_get_within (map string_bytes names) index name there in
    let m = length-map names string_bytes in
    none index (omega arith) there
