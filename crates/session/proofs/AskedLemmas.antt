-- A line asks one thing.
use Rattle.std.proofs.Common.{◌≡◌, ◌<◌, ◌≤◌, ℕ, Bool, List, length, refl, ap, subst, arith}
use Rattle.serde_json.specs.Data.{Data}
use Rattle.session_texts.specs.Judging.{IsJson}
use Rattle.session_texts.specs.Requests.{Asks, RequestValue}
use Rattle.session.specs.Lines.{LineMeaning, too_long, no_json, no_request, asks, IsLineMeaning}

long_or_short : (line : List ℕ) (x y : LineMeaning) → 65_536 < length line → length line ≤ 65_536 → x ≡ y
long_or_short line x y long short = absurd (omega (arith, long, short))

pub one_asked : ((line : List ℕ) (d e : Data) → IsJson line d → IsJson line e → d ≡ e)
    → ((sets : Bool) (d : Data) (request other : RequestValue) → Asks sets d request → Asks sets d other → request ≡ other)
    → (sets : Bool) (line : List ℕ) (x y : LineMeaning) → IsLineMeaning sets line x → IsLineMeaning sets line y → x ≡ y
one_asked value request sets line too_long too_long p q = refl
one_asked value request sets line too_long no_json p q = long_or_short line too_long no_json p q.0
one_asked value request sets line too_long no_request p q = long_or_short line too_long no_request p q.0
one_asked value request sets line too_long (asks s) p q = long_or_short line too_long (asks s) p q.0
one_asked value request sets line no_json too_long p q = long_or_short line no_json too_long q p.0
one_asked value request sets line no_json no_json p q = refl
one_asked value request sets line no_json no_request p q = absurd (p.1 q.1.0 q.1.1)
one_asked value request sets line no_json (asks s) p q = absurd (p.1 q.1.0 q.1.1)
one_asked value request sets line no_request too_long p q = long_or_short line no_request too_long q p.0
one_asked value request sets line no_request no_json p q = absurd (q.1 p.1.0 p.1.1)
one_asked value request sets line no_request no_request p q = refl
one_asked value request sets line no_request (asks s) p q = absurd (p.1.2 s (subst (λ (d : Data). Asks sets d s) (value line q.1.0 p.1.0 q.1.1 p.1.1) q.1.2))
one_asked value request sets line (asks r) too_long p q = long_or_short line (asks r) too_long q p.0
one_asked value request sets line (asks r) no_json p q = absurd (q.1 p.1.0 p.1.1)
one_asked value request sets line (asks r) no_request p q = absurd (q.1.2 r (subst (λ (d : Data). Asks sets d r) (value line p.1.0 q.1.0 p.1.1 q.1.1) p.1.2))
one_asked value request sets line (asks r) (asks s) p q =
    ap asks (request sets p.1.0 r s p.1.2 (subst (λ (d : Data). Asks sets d s) (value line q.1.0 p.1.0 q.1.1 p.1.1) q.1.2))
