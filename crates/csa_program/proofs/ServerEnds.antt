-- How a server ends.
use Rattle.std.proofs.Common.{◌≡◌, ◌≢◌, ◌<◌, ◌∙◌, ◌⊎◌, ℕ, ℤ, List, Bool, Option}
use Rattle.std.proofs.Common.{arith, inl, inr, refl, subst, sym, take}
use Rattle.std.proofs.lemmas.Bool.{cases_eq}
use Rattle.std.specs.Borrow.{Bor}
use Rattle.std.specs.Io.KnownBytes.{Appends}
use Rattle.std.specs.declared.io.ErrorKind.{ErrorKind}
use Rattle.std.proofs.KnownBytes.{Appends-trans}
use Rattle.command_endings.proofs.Outcomes.{fault_of_text, outcome_of}
use Rattle.command_endings.specs.Ending.{EndsUndone, IsDone, IsOutcome, PrintsRefusal}
use Rattle.image_files.specs.Watching.{HasFault, IsBegun}
use Rattle.command_requests.specs.Ending.{status_of}
use Rattle.command_requests.specs.declared.ends.SessionCounts.{SessionCounts}
use Rattle.command_requests.specs.declared.plans.ZoneText.{ZoneText}
use Rattle.command_requests.specs.declared.requests.ServeRequest.{ServeRequest}
use Rattle.command_requests.specs.declared.statuses.TheConstants.{ACCEPTED, INPUT_OUTPUT, OUT_OF_MEMORY, REFUSED}
use Rattle.csa_program.specs.Running.{IsPlanned, IsServeEnd, IsServeRefusal, IsUnservable}
use Rattle.csa_program.specs.Serving.{IsEndAt, IsNoServerEnd, IsServerEnd, MayHost, port_text, served_text}
use Rattle.feed_commands.specs.Refusing.{RefusesFeed, feed_line, refusal_status}
use Rattle.feed_loader.specs.Refused.{IsWantOfMemory}
use Rattle.feed_loader.specs.declared.fault.LoadFault.{LoadFault}
use Rattle.feed_plans.specs.Zoning.{IsNoPlan, IsNoZoneOf, IsZoneUnread, IsZoneUnreadable}
use Rattle.feed_plans.specs.declared.zones.PlanFailure.{PlanFailure}
use Rattle.image_commands.specs.Opening.{IsRefusedImage, SpellsImage}
use Rattle.image_files.specs.Held.{HoldsOfBytes, IsUnreadable}
use Rattle.image_layout.specs.Image.{ImageValue}

-- the port's line was printed
pub port_printed : (port status : ℕ) (fault : Option ErrorKind) (before after : Option (List ℕ))
    → ((status ≡ ACCEPTED) × Appends before after (port_text port)) ⊎ IsNoServerEnd port fault before after status
    → status ≡ ACCEPTED → Appends before after (port_text port)
port_printed port status fault before after (inl (is, printed)) e = printed
port_printed port status fault before after (inr (inl (failed, has, begun))) e = absurd (omega (arith, failed, e))
port_printed port status fault before after (inr (inr (none, either))) e = absurd (omega (arith, none, e))

-- a text was written with the status that was given, if no call failed
given_then : (status given : ℕ) → (status ≡ given) ⊎ (status ≡ INPUT_OUTPUT) → status ≢ INPUT_OUTPUT → status ≡ given
given_then status given (inl is) other = is
given_then status given (inr failed) other = absurd (other failed)

-- behind the port the number of sessions is printed, or a first part of its line
pub served_told : (port : ℕ) (fault : Option ErrorKind) (before begun after : Option (List ℕ)) (ends : SessionCounts) (is_deaf : Bool) (status given : ℕ)
    → given ≡ status_of is_deaf ends → (status ≡ given) ⊎ (status ≡ INPUT_OUTPUT) → (status ≢ INPUT_OUTPUT → Appends begun after (served_text ends))
    → IsBegun begun after (served_text ends) → (status ≡ INPUT_OUTPUT → IsDone given (served_text ends) begun after ⊎ HasFault fault)
    → Appends before begun (port_text port) → IsServerEnd port fault before after ends is_deaf status
served_told port fault before begun after ends is_deaf status given kind either whole part failed printed =
    elim (cases_eq status INPUT_OUTPUT) [
      | inl three ↦ elim (failed three) [
        | inl done ↦ inl (three ∙ sym done.0 ∙ kind, Appends-trans before begun after (port_text port) (served_text ends) printed done.1)
        | inr has ↦ inr (inl (
          three,
          has,
          part.count,
          Appends-trans before begun after (port_text port) (take part.count (served_text ends)) printed part.added,
        ))
      ]
      | inr other ↦ inl (
        given_then status given either other ∙ kind,
        Appends-trans before begun after (port_text port) (served_text ends) printed (whole other),
      )
    ]

-- .. by the line that was made of it
pub served_line_told : (port : ℕ) (fault : Option ErrorKind) (before begun after : Option (List ℕ)) (ends : SessionCounts) (is_deaf : Bool)
    (status given : ℕ) (line : List ℕ)
    → given ≡ status_of is_deaf ends → line ≡ served_text ends → (status ≡ given) ⊎ (status ≡ INPUT_OUTPUT)
    → (status ≢ INPUT_OUTPUT → Appends begun after line) → IsBegun begun after line
    → (status ≡ INPUT_OUTPUT → IsDone given line begun after ⊎ HasFault fault) → Appends before begun (port_text port)
    → IsServerEnd port fault before after ends is_deaf status
served_line_told port fault before begun after ends is_deaf status given line kind same either whole part failed printed =
    served_told port fault before begun after ends is_deaf status given kind either
    (subst (λ (text : List ℕ). status ≢ INPUT_OUTPUT → Appends begun after text) same whole) (subst (IsBegun begun after) same part)
    (subst (λ (text : List ℕ). status ≡ INPUT_OUTPUT → IsDone given text begun after ⊎ HasFault fault) same failed) printed

-- the line of the port was written, or a first part of it
pub port_told : (port status : ℕ) (fault : Option ErrorKind) (line : List ℕ) (before after : Option (List ℕ)) → line ≡ port_text port
    → (status ≡ ACCEPTED) ⊎ (status ≡ INPUT_OUTPUT) → (status ≢ INPUT_OUTPUT → Appends before after line) → IsBegun before after line
    → (status ≡ INPUT_OUTPUT → IsDone ACCEPTED line before after ⊎ HasFault fault)
    → ((status ≡ ACCEPTED) × Appends before after (port_text port)) ⊎ IsNoServerEnd port fault before after status
port_told port status fault line before after same (inl e) whole part failed =
    inl (e, subst (Appends before after) same (whole (λ three. omega (arith, e, three))))
port_told port status fault line before after same (inr e) whole part failed =
    let has = fault_of_text ACCEPTED line fault before after (λ zero. omega (arith, zero)) (failed e) in
    inr (inl (e, has, subst (IsBegun before after) same part))

-- a zone that wasn't read is that of a file
zone_unreadable : (may_fail : List ℕ → Type 0) (zone : ZoneText) (path : Bor (List ℕ)) → IsZoneUnread may_fail zone (PlanFailure.Unreadable path)
    → IsZoneUnreadable may_fail zone
zone_unreadable may_fail (ZoneText.Fixed ahead) path none = none
zone_unreadable may_fail (ZoneText.Posix rule) path none = none
zone_unreadable may_fail (ZoneText.File file) path unread = unread.1

module _ (may_hold : List ℕ → Option (List ℕ) → Type 0) (may_fail : List ℕ → Type 0) (may_show : Option ℤ → Type 0)
    (input : Option (List ℕ)) (input_failed : Type 0) (request : ServeRequest) (may_host : MayHost) (noted : Option ErrorKind) (status : ℕ)
    (before after : Option (List ℕ)) where
  -- its zone is refused
  pub zone_refused : (fault : LoadFault) → IsNoZoneOf may_hold request.plan fault → EndsUndone status → (IsWantOfMemory fault → status ≡ OUT_OF_MEMORY)
      → (status ≡ REFUSED → RefusesFeed fault) → (status ≡ REFUSED → Appends before after (feed_line fault))
      → (status ≡ OUT_OF_MEMORY → after ≡ before) → (status ≡ INPUT_OUTPUT → IsBegun before after (feed_line fault))
      → (status ≡ INPUT_OUTPUT → IsDone (refusal_status fault) (feed_line fault) before after ⊎ HasFault noted)
      → IsServeEnd may_hold may_fail may_show input input_failed request may_host noted status before after
  zone_refused fault is (inl e) memory refuses whole silent begun failed =
      let judged = refuses e in
      inl (inl (feed_line fault, inl (fault, judged.0, e ∙ sym judged.1, is, refl), whole e))
  zone_refused fault is (inr (inl e)) memory refuses whole silent begun failed =
      let other : ¬ (IsWantOfMemory fault) = λ want. let none = memory want in omega (arith, e, none) in
      elim (failed e) [
        | inl done ↦ inl (inl (feed_line fault, inl (fault, other, e ∙ sym done.0, is, refl), done.1))
        | inr has ↦ inl (inr (inl (e, has, refusal_status fault, feed_line fault, inl (fault, other, refl, is, refl), begun e)))
      ]
  zone_refused fault is (inr (inr e)) memory refuses whole silent begun failed = inl (inr (inr (inr e, silent e)))

  -- its plan was made, and its image is refused
  pub image_refused : (zone_bytes : List ℕ) → IsPlanned may_hold may_fail may_show input input_failed request zone_bytes
      → IsOutcome (PrintsRefusal (IsRefusedImage may_hold request.image.now input)) (IsUnreadable may_fail request.image.now input_failed) noted
      status before after
      → IsServeEnd may_hold may_fail may_show input input_failed request may_host noted status before after
  image_refused zone_bytes planned ended =
      inl (outcome_of (PrintsRefusal (IsRefusedImage may_hold request.image.now input))
      (IsServeRefusal may_hold may_fail may_show input input_failed request)
      (IsUnreadable may_fail request.image.now input_failed) (IsUnservable may_hold may_fail may_show input input_failed request) noted
      status before after (λ s line is. inr (zone_bytes, planned, is)) (λ can. inr (zone_bytes, planned, inl can)) ended)

  -- its zone's file can't be read
  pub zone_unread : (path : Bor (List ℕ)) → IsNoPlan may_hold may_fail request.plan (PlanFailure.Unreadable path) → status ≡ INPUT_OUTPUT
      → after ≡ before → IsServeEnd may_hold may_fail may_show input input_failed request may_host noted status before after
  zone_unread path unread e same = inl (inr (inr (inl (e, inl (zone_unreadable may_fail request.plan.zone path unread)), same)))

  -- nothing listens at its port
  pub unheard : (image : ImageValue) (zone_bytes : List ℕ)
      → IsPlanned may_hold may_fail may_show input input_failed request zone_bytes
      → HoldsOfBytes may_hold request.image.now input (SpellsImage image)
      → (status ≡ INPUT_OUTPUT) ⊎ (status ≡ OUT_OF_MEMORY) → after ≡ before
      → IsServeEnd may_hold may_fail may_show input input_failed request may_host noted status before after
  unheard image zone_bytes planned held (inl e) same =
      inl (inr (inr (inl (e, inr (zone_bytes, planned, inr (image, held, tt))), same)))
  unheard image zone_bytes planned held (inr e) same = inl (inr (inr (inr e, same)))

  -- nothing was printed until it listened
  pub listened : (image : ImageValue) (zone_bytes : List ℕ) (port : ℕ) (opened : Option (List ℕ))
      → IsPlanned may_hold may_fail may_show input input_failed request zone_bytes
      → HoldsOfBytes may_hold request.image.now input (SpellsImage image)
      → (request.port ≢ 0 → port ≡ request.port) → port < 65_536 → opened ≡ before
      → IsEndAt (may_host request image zone_bytes) port noted opened after status
      → IsServeEnd may_hold may_fail may_show input input_failed request may_host noted status before after
  listened image zone_bytes port opened planned held at small kept ended = inr (record {
    image = image;
    zone_bytes = zone_bytes;
    port = port;
    planned = planned;
    held = held;
    at = at;
    small = small;
    ended = subst (λ (was : Option (List ℕ)). IsEndAt (may_host request image zone_bytes) port noted was after status) kept ended;
  })
