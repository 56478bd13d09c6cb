-- The lines that every text of the C subset begins with.
use Rattle.std.specs.Prelude.{ℕ, List, [], ◌∷◌, codes}
use Rattle.bl_tree.specs.Reduce.{joined}

-- the bytes of the prelude, line by line
unfoldable pub prelude : List ℕ
prelude = joined (
    codes "#include <stdbool.h>\n" ∷
    codes "#include <stdint.h>\n" ∷
    codes "#include <stdlib.h>\n" ∷
    codes "static void bl_trap(void) { abort(); }\n" ∷
    codes "static uint32_t bl_turn(uint32_t t) { if (t == 65536u) bl_trap(); return t + 1u; }\n" ∷
    codes "static uint32_t bl_ix_s(int64_t i, uint32_t n) { if (i < 0 || i >= (int64_t)n) bl_trap(); return (uint32_t)i; }\n" ∷
    codes "static uint32_t bl_ix_u(uint64_t i, uint32_t n) { if (i >= n) bl_trap(); return (uint32_t)i; }\n" ∷
    codes "#define BL_INT(N, T, LO, HI) \\\n" ∷
    codes "static T bl_add_##N(T a, T b) { if (b > 0 ? a > HI - b : a < LO - b) bl_trap(); return (T)(a + b); } \\\n" ∷
    codes "static T bl_sub_##N(T a, T b) { if (b > 0 ? a < LO + b : a > HI + b) bl_trap(); return (T)(a - b); } \\\n" ∷
    codes "static T bl_mul_##N(T a, T b) { if (a > 0 ? (b > 0 ? a > HI / b : b < LO / a) : (b > 0 ? a < LO / b : a != 0 && b < HI / a)) bl_trap(); " ∷
    codes "return (T)(a * b); } \\\n" ∷
    codes "static T bl_div_##N(T a, T b) { if (b == 0 || (b == -1 && a == LO)) bl_trap(); return (T)(a / b); } \\\n" ∷
    codes "static T bl_rem_##N(T a, T b) { if (b == 0) bl_trap(); return b == -1 ? (T)0 : (T)(a % b); } \\\n" ∷
    codes "static T bl_neg_##N(T a) { if (a == LO) bl_trap(); return (T)(-a); } \\\n" ∷
    codes "static T bl_of_s_##N(int64_t a) { if (a < LO || a > HI) bl_trap(); return (T)a; } \\\n" ∷
    codes "static T bl_of_u_##N(uint64_t a) { if (a > (uint64_t)HI) bl_trap(); return (T)a; }\n" ∷
    codes "#define BL_UNS(N, T, HI) \\\n" ∷
    codes "static T bl_div_##N(T a, T b) { if (b == 0) bl_trap(); return (T)(a / b); } \\\n" ∷
    codes "static T bl_rem_##N(T a, T b) { if (b == 0) bl_trap(); return (T)(a % b); } \\\n" ∷
    codes "static T bl_of_s_##N(int64_t a) { if (a < 0 || (uint64_t)a > HI) bl_trap(); return (T)a; } \\\n" ∷
    codes "static T bl_of_u_##N(uint64_t a) { if (a > HI) bl_trap(); return (T)a; }\n" ∷
    codes "#define BL_NAT(N, T, HI) BL_UNS(N, T, HI) \\\n" ∷
    codes "static T bl_add_##N(T a, T b) { if (a > HI - b) bl_trap(); return (T)(a + b); } \\\n" ∷
    codes "static T bl_sub_##N(T a, T b) { if (a < b) bl_trap(); return (T)(a - b); } \\\n" ∷
    codes "static T bl_mul_##N(T a, T b) { if (b != 0 && a > HI / b) bl_trap(); return (T)(a * b); }\n" ∷
    codes "#define BL_BITS(N, T, HI, W) BL_UNS(N, T, HI) \\\n" ∷
    codes "static T bl_add_##N(T a, T b) { return (T)((uint64_t)a + b); } \\\n" ∷
    codes "static T bl_sub_##N(T a, T b) { return (T)((uint64_t)a - b); } \\\n" ∷
    codes "static T bl_mul_##N(T a, T b) { return (T)((uint64_t)a * b); } \\\n" ∷
    codes "static T bl_neg_##N(T a) { return (T)(0u - (uint64_t)a); } \\\n" ∷
    codes "static T bl_not_##N(T a) { return (T)(~(uint64_t)a); } \\\n" ∷
    codes "static T bl_and_##N(T a, T b) { return (T)(a & b); } \\\n" ∷
    codes "static T bl_or_##N(T a, T b) { return (T)(a | b); } \\\n" ∷
    codes "static T bl_xor_##N(T a, T b) { return (T)(a ^ b); } \\\n" ∷
    codes "static T bl_shl_##N(T a, T b) { return b >= W ? (T)0 : (T)((uint64_t)a << b); } \\\n" ∷
    codes "static T bl_shr_##N(T a, T b) { return b >= W ? (T)0 : (T)((uint64_t)a >> b); }\n" ∷
    codes "BL_INT(i8, int8_t, INT8_MIN, INT8_MAX)\n" ∷
    codes "BL_INT(i16, int16_t, INT16_MIN, INT16_MAX)\n" ∷
    codes "BL_INT(i32, int32_t, INT32_MIN, INT32_MAX)\n" ∷
    codes "BL_INT(i64, int64_t, INT64_MIN, INT64_MAX)\n" ∷
    codes "BL_NAT(n8, uint8_t, UINT8_MAX)\n" ∷
    codes "BL_NAT(n16, uint16_t, UINT16_MAX)\n" ∷
    codes "BL_NAT(n32, uint32_t, UINT32_MAX)\n" ∷
    codes "BL_NAT(n64, uint64_t, UINT64_MAX)\n" ∷
    codes "BL_BITS(b8, uint8_t, UINT8_MAX, 8)\n" ∷
    codes "BL_BITS(b16, uint16_t, UINT16_MAX, 16)\n" ∷
    codes "BL_BITS(b32, uint32_t, UINT32_MAX, 32)\n" ∷
    codes "BL_BITS(b64, uint64_t, UINT64_MAX, 64)\n" ∷
    [])
