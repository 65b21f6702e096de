use Rattle.wm_test_machine.proofs.calls.next.Given as goal

abbrev pub ghosts-candidate : goal.ghosts-candidate
ghosts-candidate a = record { name = a.blank.name; parts = a.blank.parts }
