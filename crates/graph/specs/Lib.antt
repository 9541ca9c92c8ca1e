-- The network of depots, in graph theory's words. Order of reading:
-- 1. what the words mean: network, walk, distance, eccentricity, diameter, farthest pairs. A reader must believe this file
pub mod Network
-- 2. distances computed: breadth-first search
pub mod Distance
-- 3. what the reference rounds need of a network, and its figures computed
pub mod Chart
-- 4. the reference rounds and the whole reckoning
pub mod Rounds
-- 5. the opening of a depot
pub mod Opening
-- 6. a link added later
pub mod Linking
-- 7. what is proved of 2 to 6, by the words of 1. Calls on lent memory cite `IsCovered` and `IsSkipped`; nobody has to believe the others
pub mod Correct
-- 8. what a call asks of the network, and what each kind of update owes
pub mod Updates
-- 9. what yards change in the steps, and what stands where there are none. Nobody has to believe this file
pub mod Yards
-- 10. openings handed over together
pub mod Batch
-- 11. the refusals that speak of the network alone, by the words of 1
pub mod Refusals
-- 12. depots near one: within so many links, and the nearest of a list
pub mod Nearby
-- 13. the sum of distances over the pairs, their number, and the depots of each eccentricity
pub mod Summary
-- 14. how far one notice can move the diameter
pub mod Movement
-- 15. the worked cases of the rules, computed; crate `cases` cites their inputs (`path`, `seven_lines`) and `AnswerLine`
pub mod Cases
-- 16. further cases, one for each rule that those leave open. Nobody has to believe this file
pub mod RuleCases
-- 17. links worked by hand. Nobody has to believe this file
pub mod LinkCases
-- 18. batches worked by hand. Nobody has to believe this file
pub mod BatchCases
-- 19. yards worked by hand. Nobody has to believe this file
pub mod YardCases
-- 20. movements worked by hand. Nobody has to believe this file
pub mod MovementCases
-- 21. the closing of a depot. No call gives it yet: nobody has to believe this file
pub mod Closing
-- 22. closings worked by hand. Nobody has to believe this file
pub mod CloseCases
-- 23. the same network under other names: rows for codes. No call gives it yet: nobody has to believe this file
pub mod Renaming
-- 24. what is read of a network under other names. No call gives it yet: nobody has to believe this file
pub mod RenamedReports
-- 25. rows in order of arrival. No call gives it yet: nobody has to believe this file
pub mod Arrivals
-- 26. rows and codes worked by hand. Nobody has to believe this file
pub mod RowCases
-- 27. the pick of the rounds where ties go by code. No call gives it yet: nobody has to believe this file
pub mod Pick
-- 28. the Leiden method, a second engine for the diameter alone. No call gives it yet: nobody has to believe this file
pub mod Leiden
-- 29. the branch profile: two searches on a network without loops. No call gives it yet: nobody has to believe this file
pub mod Branch
-- 30. distances from a group of depots. No call gives it yet: nobody has to believe this file
pub mod Groups
-- 31. many searches in one sweep of the link table. No call gives it yet: nobody has to believe this file
pub mod Sweep
-- 32. the greatest figures: depots in a path, and depots all linked
pub mod Greatest
