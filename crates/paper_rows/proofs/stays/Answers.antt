-- For each state the rows that stay come down to those of its seats, and the course is the one of them that can be meant.
use borrow.Author.Tests.{eq-eqb}
use mathlib.Core.Path.{refl}
use Rattle.ledger.proofs.Tallies.{differs}
use Rattle.paper_rows.proofs.stays.Goals as goal

pub returns-then-mode-eq1 : goal.returns-then-mode-eq1
returns-then-mode-eq1 c = λ k. simp (eq-eqb k k refl, c.if-mode-eq1.true, c.in-6.is)

pub returns-in-0 : goal.returns-in-0
returns-in-0 c = λ k. simp (eq-eqb k k refl, c.in-0.is)

pub returns-in-3 : goal.returns-in-3
returns-in-3 c = λ k. simp (eq-eqb k k refl, c.in-3.is)

pub returns-else-mode-eq1 : goal.returns-else-mode-eq1
returns-else-mode-eq1 c = λ k. simp (eq-eqb k k refl, differs 1 _ c.if-mode-eq1.false, c.in-6.is)

pub returns-in-8 : goal.returns-in-8
returns-in-8 c = λ k. simp (eq-eqb k k refl, c.in-8.is)

pub returns-in-9 : goal.returns-in-9
returns-in-9 c = λ k. simp (eq-eqb k k refl, c.in-9.is)

pub returns-in-11 : goal.returns-in-11
returns-in-11 c = λ k. simp (eq-eqb k k refl, c.in-11.is)

pub returns-in-12 : goal.returns-in-12
returns-in-12 c = λ k. simp (eq-eqb k k refl, c.in-12.is)

pub returns-in_default : goal.returns-in_default
returns-in_default c =
    λ k. simp (
      eq-eqb k k refl,
      differs 0 _ c.in_default.in_default-own.rest.0.0.0.0.0.0.1,
      differs 3 _ c.in_default.in_default-own.rest.0.0.0.0.0.1,
      differs 6 _ c.in_default.in_default-own.rest.0.0.0.0.1,
      differs 8 _ c.in_default.in_default-own.rest.0.0.0.1,
      differs 9 _ c.in_default.in_default-own.rest.0.0.1,
      differs 11 _ c.in_default.in_default-own.rest.0.1,
      differs 12 _ c.in_default.in_default-own.rest.1,
    )
