-- The call is of this countdown and this pass.
use Rattle.pac_countdown.proofs.countdown.Countdown.count.Given as goal

abbrev pub ghosts-count_as : goal.ghosts-count_as
ghosts-count_as a = record { agenda = a.self.now.agenda; number = a.pass.now.number; from = a.from }
