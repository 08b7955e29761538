pub mod JudgedCalls
