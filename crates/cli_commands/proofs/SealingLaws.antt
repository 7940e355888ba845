-- What `issue` answers is sealed, from its reply to the end of the run.
use Rattle.std.proofs.Common.{◌≡◌, ℕ, suc, List, sym, ap, ◌∙◌, subst, inl, inr, arith}
use Rattle.std.specs.Prelude.{Option, Some, None, Result, Ok, Err, IfOk}
use Rattle.fed_ports.specs.Bytes.{Appends}
use Rattle.fed_ports.specs.Stores.{Files}
use Rattle.key_ring.specs.Rings.{Ring}
use Rattle.key_ring.specs.Sets.{signer_keys}
use Rattle.slh_dsa.specs.Keys.{Keys}
use Rattle.cli_commands.specs.Answers.{IsEnded, IsNamed, Output}
use Rattle.cli_rings.specs.Replies.{bad_input}
use Rattle.cli_commands.specs.Sealings.{IsSealedBySigner, IsSealedFrom, RepliesSealed, IssuesSealed}
use Rattle.cli_rings.specs.SealedLines.{IsSealedReply}
use Rattle.cli_commands.specs.Operations.{IsPrepared, issue_prepared}
use Rattle.cli_rings.specs.RingFiles.{IsRingFound}
use Rattle.cli_words.specs.declared.command.Command.{Command}
use Rattle.cli_words.specs.declared.command.Command.TheVariants.{Issue}
use Rattle.cli_rings.specs.declared.reply.Reply.{Reply}
use Rattle.cli_words.specs.declared.text_type.TextType.{TextType}
use Rattle.cli_commands.specs.declared.operation.Operation.{Operation}
use Rattle.cli_commands.specs.declared.operation.Operation.TheVariants as operation
use Rattle.cli_commands.specs.declared.operation.Prepared.TheVariants.{Answered, WantsInput}

not_zero : (n status : ℕ) → status ≡ suc n → status ≡ 0 → ⊥
not_zero n status is zero = absurd (omega (arith, is, zero))

-- ---- the reply of a command

done_at_issue : (typ : TextType) (workers : ℕ) (found : Option Ring) (reply : Reply) → Answered reply ≡ issue_prepared typ workers found → reply.status ≡ 2
done_at_issue typ workers None reply is = let same : reply ≡ bad_input = cc is in ap (λ z. z.status) same
done_at_issue typ workers (Some ring) reply is = absurd (cc is)

-- a reply before the input is none
pub done_sealed : (c : Command) (moment : ℕ) (files : Option Files) (file : Option (List ℕ)) (reply : Reply) → IsPrepared c moment file (Answered reply) → RepliesSealed c files reply
done_sealed c moment files file reply is = λ name typ workers same zero.
    let (found, of_file, made) = subst (λ z. IsPrepared z moment file (Answered reply)) same is in
    absurd (not_zero 1 reply.status (done_at_issue typ workers found reply made) zero)

by_signer : (name : List ℕ) (typ : TextType) (workers : ℕ) (files : Option Files) (file : Option (List ℕ)) (found : Option Ring) (work : Operation) (reply : Reply) → IsNamed (Issue name typ workers) files file → IsRingFound file found
    → WantsInput work ≡ issue_prepared typ workers found → ((ring : Ring) (kind : TextType) (n : ℕ) → work ≡ operation.Issue ring kind n → IsSealedBySigner ring reply) → IsSealedFrom name files reply
by_signer name typ workers files file None work reply named of_file is sealed = absurd (cc is)
by_signer name typ workers files None (Some ring) work reply named of_file is sealed = absurd (cc of_file)
by_signer name typ workers files (Some bytes) (Some ring) work reply named (few, opened) is sealed =
    let same : work ≡ operation.Issue ring typ workers = cc is in λ zero. let (keys, signs, line) = sealed ring typ workers same zero in (bytes, ring, keys, named, opened, signs, line)

-- a reply on the input is by the signer of the ring
pub awaited_sealed : (c : Command) (moment : ℕ) (files : Option Files) (file : Option (List ℕ)) (work : Operation) (reply : Reply) → IsNamed c files file
    → IsPrepared c moment file (WantsInput work) → ((ring : Ring) (kind : TextType) (n : ℕ) → work ≡ operation.Issue ring kind n → IsSealedBySigner ring reply) → RepliesSealed c files reply
awaited_sealed c moment files file work reply named is sealed = λ name typ workers same.
    let (found, of_file, made) = subst (λ z. IsPrepared z moment file (WantsInput work)) same is in
    by_signer name typ workers files file found work reply (subst (λ z. IsNamed z files file) same named) of_file made sealed

-- claims that are sealed by the signer's key are sealed by the signer
pub sealed_by_signer : {E : Type 0} (result : Result Reply E) (work : Operation) (held ring : Ring) (typ kind : TextType) (workers n : ℕ) (keys : Keys) → work ≡ operation.Issue held typ workers → signer_keys held ≡ Some keys
    → IfOk result (IsSealedReply keys) → work ≡ operation.Issue ring kind n → IfOk result (IsSealedBySigner ring)
sealed_by_signer (Ok reply) work held ring typ kind workers n keys is signs sealed also =
    let both : operation.Issue held typ workers ≡ operation.Issue ring kind n = sym is ∙ also in
    let same : held ≡ ring = cc both in
    λ zero. (keys, subst (λ r. signer_keys r ≡ Some keys) same signs, sealed zero)
sealed_by_signer (Err e) work held ring typ kind workers n keys is signs sealed also = tt

-- ---- the end of a run

-- a run that didn't end with 0 tells of no text
pub stopped_sealed : (c : Command) (files : Option Files) (held held' : Option (List ℕ)) (status n : ℕ) → status ≡ suc n → IssuesSealed c files held held' status
stopped_sealed c files held held' status n is = λ name typ workers same zero. absurd (not_zero n status is zero)

written_sealed : (c : Command) (files : Option Files) (held held' : Option (List ℕ)) (reply : Reply) (status : ℕ) → RepliesSealed c files reply → status ≡ reply.status
    → Appends held held' reply.text → IssuesSealed c files held held' status
written_sealed c files held held' reply status sealed is written = λ name typ workers same zero.
    let (bytes, opened, keys, file, of_ring, signs, line) = sealed name typ workers same (sym is ∙ zero) in (bytes, opened, keys, reply.text, file, of_ring, signs, written, line)

-- what a run with a reply wrote is that reply
pub ended_sealed : (c : Command) (r : Reply) (x y : Output) (status : ℕ) → RepliesSealed c x.files r → IsEnded c r x y status → IssuesSealed c x.files x.held y.held status
ended_sealed c r x y status sealed (inl (is, a, b, written, stands)) = written_sealed c x.files x.held y.held r status sealed is written
ended_sealed c r x y status sealed (inr (inl (is, a, b, written, stands))) = stopped_sealed c x.files x.held y.held status 3 is
ended_sealed c r x y status sealed (inr (inr (is, a, b, unwritten, torn))) = stopped_sealed c x.files x.held y.held status 5 is
