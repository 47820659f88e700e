-- A job whose two pictures fit runs by its own three checks, and its reader is then shown step k. Assumes nothing.
use mathlib.Core.Path.{◌≡◌, sym, ap, subst, ◌∙◌}
use mathlib.Core.List.{List, ◌++◌}
use Prim.Native.Nat.{ℕ, ◌*◌, ◌<◌}
use borrow.Author.Tests.{eq-eqb}
use lib.ListN.{length}
use Rattle.limits.specs.Errors.{first_refusal, answer_with}
use Rattle.limits.proofs.Checks.{all_hold}
use Rattle.kernel.specs.Answer.{kernel_answer}
use Rattle.kernel.specs.declared.Kernel.{Kernel}
use Rattle.kernel.proofs.Answers.{present}
use Rattle.kernel.proofs.Theorems.{sound_by}
use Rattle.limits.specs.declared.ErrorCode.{ErrorCode}
use Rattle.covariance.specs.Shapes.{variances_fine, direction_fine, covariance_xx, covariance_xy, covariance_yy}
use Rattle.averaging.specs.Steps.{steps_of}
use Rattle.averaging.proofs.Runs.{length_steps, normalized}
use Rattle.smoothing.specs.Runs.{run_checks, run_of}
use Rattle.smoothing.specs.Shown.{shown_of}
use Rattle.smoothing.proofs.Theorems.{shown_after, answers, shows_last}
use Rattle.job_printer.specs.Lines.{refusal_text, kernel_text, picture_text}
use Rattle.job_printer.specs.Buffers.{HasRoom, Printed}
use Rattle.job_printer.specs.declared.printer.Printer.{Printer}
use Rattle.job_printer.proofs.Printing.{Printing, begun_as, fits as part_fits, fits_last, one_part, last_part}
use Rattle.job_parser.specs.declared.Header.{Header}
use Rattle.job_text.specs.Shape.{shape_of}
use Rattle.job_text.specs.Answer.{job_checks, job_kernel, shown_text, job_answer}
use Rattle.std.specs.Prelude.{Ok, Err}

module _ (h : Header) (first second : List ℕ) (fits : length first ≡ h.width * h.height) (fits-too : length second ≡ h.width * h.height) where
  -- a Matrix is refused by its kernel only, and the lengths are right
  same_checks : first_refusal (run_checks (shape_of h) h.steps h.width h.height (length first) (length second)) ≡ first_refusal (job_checks h)
  unfolding variances_fine direction_fine covariance_xx covariance_xy covariance_yy
  same_checks = rw (eq-eqb (length first) (h.width * h.height) fits, eq-eqb (length second) (h.width * h.height) fits-too)

  pub run_answers : (run_of h.choice (shape_of h) h.steps h.width h.height first second).outcome ≡ first_refusal (job_checks h)
  run_answers = answers h.choice (shape_of h) h.steps h.width h.height first second ∙ same_checks

  -- what is shown of the two pictures that the run left
  pub shown_after_lem : {p q pixels : List ℕ} → pixels ≡ shown_of (shape_of h) h.steps h.width h.height p q
      → p ≡ (run_of h.choice (shape_of h) h.steps h.width h.height first second).first
      → q ≡ (run_of h.choice (shape_of h) h.steps h.width h.height first second).second
      → pixels ≡ shown_after h.choice (shape_of h) h.steps h.width h.height first second
  shown_after_lem e f g = e ∙ rw (f, g)

  -- a run that is refused tells the refusal, and one that is not leaves the kernel to be answered
  pub refused_run : (code : ErrorCode) → Err code ≡ (run_of h.choice (shape_of h) h.steps h.width h.height first second).outcome → answer_with (first_refusal (job_checks h)) (job_kernel h) ≡ Err code
  refused_run code e = let refused : first_refusal (job_checks h) ≡ Err code = sym run_answers ∙ sym e in rw refused

  pub accepted_run : Ok tt ≡ (run_of h.choice (shape_of h) h.steps h.width h.height first second).outcome
      → kernel_answer h.choice h.covariance.xx h.covariance.xy h.covariance.yy h.steps ≡ answer_with (first_refusal (job_checks h)) (job_kernel h)
  accepted_run e =
      let accepted : first_refusal (job_checks h) ≡ Ok tt = sym run_answers ∙ sym e in
      let holds = all_hold (job_checks h) accepted in
      present (job_kernel h) h.covariance.xx h.covariance.xy h.covariance.yy h.steps holds.0 holds.1.1.0 ∙ rw accepted

  pub refused_text : (code : ErrorCode) → first_refusal (job_checks h) ≡ Err code → refusal_text code ≡ job_answer h first
  unfolding job_answer
  refused_text code e = rw e

  module _ (accepted : first_refusal (job_checks h) ≡ Ok tt) where
    shown_is : shown_after h.choice (shape_of h) h.steps h.width h.height first second ≡ steps_of (job_kernel h) h.width h.height h.steps first
    unfolding covariance_xx covariance_xy covariance_yy
    shown_is = shows_last h.choice (shape_of h) h.steps h.width h.height first second (same_checks ∙ accepted)

    pub shown_fits : length (shown_after h.choice (shape_of h) h.steps h.width h.height first second) ≡ h.width * h.height
    shown_fits = ap length shown_is ∙ length_steps (job_kernel h) h.width h.height first fits h.steps

    pub shown_text_lem : shown_text h (shown_after h.choice (shape_of h) h.steps h.width h.height first second) ≡ job_answer h first
    unfolding job_answer
    shown_text_lem = rw (shown_is, accepted)

    -- the kernel and the picture are the answer, one after the other
    module _ (kernel : Kernel) (kernel_is : kernel ≡ job_kernel h) (pixels : List ℕ) (shown : pixels ≡ shown_after h.choice (shape_of h) h.steps h.width h.height first second) (start : Printer) (room : HasRoom start (job_answer h first)) where
      pub positive : 0 < kernel.sum
      positive =
          let holds = all_hold (job_checks h) accepted in
          subst (λ k. 0 < k.sum) (sym kernel_is) (normalized (job_kernel h) h.steps (sound_by h.choice h.covariance.xx h.covariance.xy h.covariance.yy h.steps holds.0 holds.1.1.0)).positive

      pub pixels_fit : length pixels ≡ h.width * h.height
      pixels_fit = ap length shown ∙ shown_fits

      parts : job_answer h first ≡ kernel_text kernel ++ picture_text h.width h.height pixels
      parts =
          sym shown_text_lem
          ∙ ap (λ k. kernel_text k ++ picture_text h.width h.height (shown_after h.choice (shape_of h) h.steps h.width h.height first second)) (sym kernel_is)
          ∙ ap (λ ps. kernel_text kernel ++ picture_text h.width h.height ps) (sym shown)

      all : Printing (job_answer h first) start (kernel_text kernel ++ picture_text h.width h.height pixels) start
      all = begun_as (job_answer h first) (kernel_text kernel ++ picture_text h.width h.height pixels) start parts room

      pub kernel_fits : HasRoom start (kernel_text kernel)
      kernel_fits = part_fits (kernel_text kernel) (picture_text h.width h.height pixels) start all

      module _ (middle : Printer) (printed : Printed start (kernel_text kernel) middle) where
        after_kernel : Printing (job_answer h first) start (picture_text h.width h.height pixels) middle
        after_kernel = one_part (kernel_text kernel) (picture_text h.width h.height pixels) start middle all printed

        pub picture_fits : HasRoom middle (picture_text h.width h.height pixels)
        picture_fits = fits_last (picture_text h.width h.height pixels) middle after_kernel

        pub job_printed : (end : Printer) → Printed middle (picture_text h.width h.height pixels) end → Printed start (job_answer h first) end
        job_printed end more = last_part (picture_text h.width h.height pixels) middle end after_kernel more
