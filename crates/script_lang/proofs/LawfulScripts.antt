-- A script that a text reads as is lawful.
use Rattle.std.proofs.Common.{◌≡◌, ℕ, ◌≤◌, List, length, sym, subst, arith}
use Rattle.std.proofs.lemmas.List.Elements.{All-weaker}
use Rattle.text_lines.specs.Lines.{lines}
use Rattle.script_types.specs.declared.Script.{Script}
use Rattle.script_types.specs.declared.Statement.{Statement}
use Rattle.script_lang.specs.declared.part.Part.{Part}
use Rattle.text_lines.specs.Reading.{ReadsWhole}
use Rattle.script_lang.specs.Scripts.{Step, MayEnd, start, script_of, IsScript}
use Rattle.script_types.specs.Lawful.{IsInOrder, IsLawful}
use Rattle.script_lang.proofs.SoundParts.{InBody, reads_sound, start_sound, ended_allowed, ended_body}
use Rattle.script_lang.proofs.LineSizes.{count_reads, total-lines, length-lines}

in_order : (p : Part) → InBody p → p.lines ≤ 4194304 → IsInOrder (script_of p)
in_order p is short = let m = is.limit in record {
  bound = is.bound;
  basis = is.basis;
  basis_limit = omega (arith, m, short);
  behind = is.statements.behind;
  limit = All-weaker (λ (t : Statement). t.line ≤ p.lines) (λ (t : Statement). t.line ≤ 4194304) (λ t l. omega (arith, l, short)) p.statements is.statements.limit;
  ascending = is.statements.ascending;
}

pub script_lawful : (text : List ℕ) (s : Script) → length text ≤ 4194304 → IsScript text s → IsLawful s
script_lawful text s short is =
    let p = is.last in
    let n = length-lines text in
    let read = reads_sound start p (lines text) (omega (arith, n, short)) start_sound is.reads.reads in
    let m = read.lines in
    let body = ended_body p read.sound is.reads.ends in
    let c = count_reads start p (lines text) is.reads.reads in
    let t = total-lines text in
    subst IsLawful (sym is.says) (record {
      header = ended_allowed p read.sound is.reads.ends;
      order = in_order p body (omega (arith, n, m, short));
      statements = body.statements.kinds;
      few = omega (arith, c, t, short);
    })

-- the same, of what was read from a part that is the start
pub read_lawful : (text : List ℕ) (first last : Part) (s : Script) → length text ≤ 4194304 → first ≡ start → ReadsWhole Step MayEnd first (lines text) last → s ≡ script_of last → IsLawful s
read_lawful text first last s short same reads says =
    script_lawful text s short (record { last = last; reads = subst (λ p. ReadsWhole Step MayEnd p (lines text) last) same reads; says = says })
